-- `write_counts` meets its contract: by cases of the answer. Assumes nothing.
use Rattle.witness.specs.Encoding.{code}
use Rattle.witness.proofs.write_counts.Goals as goal

pub returns-in-Ok : goal.returns-in-Ok
unfolding code
returns-in-Ok c = rw c.in-Ok.is c.put.ensures

pub returns-in-Err : goal.returns-in-Err
unfolding code
returns-in-Err c = rw (c.in-Err.is, ← c.number.ensures) c.put-in-Err.ensures
