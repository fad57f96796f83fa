-- `filter_commands::begin` meets its contract: by one entry or by several. Assumes nothing.
use mathlib.Core.Path.{sym, ◌∙◌}
use Rattle.entries.specs.Entries.{entries_of}
use Rattle.filter_commands.proofs.Commands.{only_one}
use Rattle.filter_commands.proofs.begin.Goals as goal

pub returns-then-count-eq1 : goal.returns-then-count-eq1
returns-then-count-eq1 c = rw (only_one (entries_of c.args.bytes.now) (sym c.count.ensures ∙ c.if-count-eq1.true) c.entry_at.ensures) c.grow_by_one.ensures
