-- `filter_commands::begin_names` meets its contract: the entry is the first, and the mode word says that there are some. Assumes nothing.
use mathlib.Core.Path.{◌∙◌}
use Rattle.filter_commands.proofs.Names.{names_long, name_begun}
use Rattle.filter_commands.proofs.begin_names.Goals as goal

pub returns : goal.returns
returns c = name_begun _ _ c.requires.0 c.requires.1 c.requires.2 c.requires.3 (c.append.auto.block ∙ names_long c.args.block.now c.requires.0) c.append.ensures
