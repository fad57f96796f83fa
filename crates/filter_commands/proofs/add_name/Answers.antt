-- `filter_commands::add_name` meets its contract: refused on a cleared pair, else the first NAME entry or a further one. Assumes nothing.
use Rattle.filter_commands.proofs.Names.{name_cleared}
use Rattle.filter_commands.proofs.add_name.Goals as goal

pub returns-then-mode-eq-CLEARED : goal.returns-then-mode-eq-CLEARED
returns-then-mode-eq-CLEARED c = name_cleared _ _ c.if-mode-eq-CLEARED.true
