-- `filter_commands::add` meets its contract: refused on a cleared pair, else the list grows, by one entry or by several. Assumes nothing.
use mathlib.Core.Path.{sym, ◌∙◌}
use Rattle.entries.specs.Entries.{entries_of}
use Rattle.filter_commands.proofs.Commands.{only_one, add_cleared, add_grown}
use Rattle.filter_commands.proofs.add.Goals as goal

pub returns-then-is_cleared : goal.returns-then-is_cleared
returns-then-is_cleared c = add_cleared _ _ (sym c.is_cleared.ensures ∙ c.if-is_cleared.true)

pub returns-then-count-eq1 : goal.returns-then-count-eq1
returns-then-count-eq1 c = let one = only_one (entries_of c.args.bytes.now) (sym c.count.ensures ∙ c.if-count-eq1.true) c.entry_at.ensures in
    rw one
    (add_grown _ _ c.requires (sym c.is_cleared.ensures ∙ c.if-is_cleared.false) c.count-n.ensures c.grow_by_one.result c.grow_by_one.ensures)

pub returns : goal.returns
returns c = add_grown _ _ c.requires (sym c.is_cleared.ensures ∙ c.if-is_cleared.false) c.count-n.ensures c.grow.result c.grow.ensures
