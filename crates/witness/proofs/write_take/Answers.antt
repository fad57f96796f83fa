-- `write_take` meets its contract: by cases of the answer. Assumes nothing.
use Rattle.witness.specs.Encoding.{code}
use Rattle.witness.proofs.write_take.Goals as goal

pub returns-in-Ok-Some : goal.returns-in-Ok-Some
unfolding code
returns-in-Ok-Some c = rw (c.in-Ok-Some.is, rw c.in-Ok-Some.is at c.in-Ok-Some.field-0-is) c.put.ensures

pub returns-in-Ok-None : goal.returns-in-Ok-None
unfolding code
returns-in-Ok-None c = rw (c.in-Ok-None.is, rw c.in-Ok-None.is at c.in-Ok-None.field-0-is) c.put-in-Ok-None.ensures

pub returns-in-Err : goal.returns-in-Err
unfolding code
returns-in-Err c = rw (c.in-Err.is, ← c.number.ensures) c.put-in-Err.ensures
