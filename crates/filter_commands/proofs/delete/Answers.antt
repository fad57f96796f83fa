-- `filter_commands::delete` meets its contract: refused on a cleared pair and where an entry is absent, else the list closes up, and what is
-- searched too. Assumes nothing.
use mathlib.Core.Path.{sym, ◌∙◌}
use native.Mathlib.Omega.{arith}
use Rattle.entries.specs.Entries.{entries_of}
use Rattle.filter.proofs.Meaning.{list_whole}
use Rattle.filter_commands.proofs.Commands.{only_one, delete_cleared, delete_lacking, delete_done, written_long}
use borrow.Author.Rules.{rules}
use Rattle.filter_commands.proofs.delete.Goals as goal

pub returns-then-is_cleared : goal.returns-then-is_cleared
returns-then-is_cleared c = delete_cleared _ _ (sym c.is_cleared.ensures ∙ c.if-is_cleared.true)

pub delete_one-requires : goal.delete_one-requires
delete_one-requires c = (c.requires, c.count-n.ensures, sym c.is_cleared.ensures ∙ c.if-is_cleared.false)

pub returns-then-count-eq1 : goal.returns-then-count-eq1
returns-then-count-eq1 c = let one = only_one (entries_of c.args.bytes.now) (sym c.count.ensures ∙ c.if-count-eq1.true) c.entry_at.ensures in
    rw one c.delete_one.ensures

pub returns-then-lacks : goal.returns-then-lacks
returns-then-lacks c = delete_lacking _ _ (sym c.lacks.ensures ∙ c.if-lacks.true)

pub sort_out-requires : goal.sort_out-requires
sort_out-requires c = let kept = c.keep_others-kept in
    let small = c.count-n.ensures.small in
    (written_long c.args.block.now kept.new.list kept.result c.requires (kept.auto.list ∙ list_whole c.args.block.now c.requires), small, omega (arith, kept.ensures.inside, small))

pub shape_of-block : goal.shape_of-block
shape_of-block c = c.sort_out.auto.block ∙ search rules

pub returns : goal.returns
returns c = let kept = c.keep_others-kept in
    delete_done _ _ _ c.requires (sym c.is_cleared.ensures ∙ c.if-is_cleared.false) (sym c.lacks.ensures ∙ c.if-lacks.false) c.count-n.ensures (kept.auto.list ∙ list_whole c.args.block.now c.requires) kept.ensures c.sort_out.ensures
