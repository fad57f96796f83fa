-- `quiet` meets its contract. Assumes nothing.
use mathlib.Core.Path.{◌∙◌}
use Rattle.witness.proofs.Steps.{quiet_step}
use Rattle.witness.proofs.quiet.Goals as goal

pub returns : goal.returns
returns c = quiet_step c.requires.0 c.quiet-r.ensures (c.put.ensures ∙ rw c.number.ensures)
