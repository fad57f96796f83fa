-- `start` meets its contract. Assumes nothing.
use Rattle.witness.proofs.Steps.{start_step}
use Rattle.witness.proofs.start.Goals as goal

pub returns-in-Ok : goal.returns-in-Ok
returns-in-Ok c = start_step c.requires.0 c.start.ensures (rw (c.in-Ok.is, ← c.word.ensures) c.put.ensures)

pub returns-in-Err : goal.returns-in-Err
returns-in-Err c = start_step c.requires.0 c.start.ensures (rw (c.in-Err.is, ← c.number.ensures) c.put-in-Err.ensures)
