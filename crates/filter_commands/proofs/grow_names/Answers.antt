-- `filter_commands::grow_names` meets its contract: already there, the ninth, or put behind the others. Assumes nothing.
use mathlib.Core.Path.{◌∙◌}
use Rattle.filter_commands.proofs.Names.{names_long, name_there, name_ninth, name_grown}
use Rattle.filter_commands.proofs.grow_names.Goals as goal

pub returns-then-holds : goal.returns-then-holds
returns-then-holds c = name_there _ _ c.requires.1 c.count-n.ensures.0 c.holds.ensures c.if-holds.true

pub returns-then-n-eq-MOST : goal.returns-then-n-eq-MOST
returns-then-n-eq-MOST c = name_ninth _ _ c.requires.1 c.count-n.ensures.0 c.holds.ensures c.if-holds.false c.if-n-eq-MOST.true

pub returns : goal.returns
returns c = name_grown _ _ c.requires.1 c.count-n.ensures.0 c.holds.ensures c.if-holds.false c.requires.0 c.if-n-eq-MOST.false (c.append.auto.block ∙ names_long c.args.block.now c.requires.0) c.append.ensures
