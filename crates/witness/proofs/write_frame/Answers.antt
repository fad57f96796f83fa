-- `write_frame` meets its contract: by cases of the answer. Assumes nothing.
use mathlib.Core.Path.{◌∙◌}
use Rattle.witness.proofs.Steps.{flag}
use Rattle.witness.specs.Encoding.{code}
use Rattle.witness.proofs.write_frame.Goals as goal

pub returns-in-Ok : goal.returns-in-Ok
unfolding code
returns-in-Ok c = rw (c.in-Ok.is, ← c.number.ensures, ← c.old_name.ensures) (c.put.ensures ∙ rw (flag c.in-Ok.a.consumed))

pub returns-in-Err : goal.returns-in-Err
unfolding code
returns-in-Err c = rw (c.in-Err.is, ← c.number-in-Err.ensures) c.put-in-Err.ensures
