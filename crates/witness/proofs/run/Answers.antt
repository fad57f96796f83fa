-- `run` meets its contract. The invariant: after i calls the record and the first i answers are the book's. Assumes nothing.
use Prim.Native.Nat.{◌*◌}
use Rattle.storage.proofs.Parts.{range_size}
use Rattle.witness.proofs.Runs.{running_start, running_step}
use Rattle.witness.proofs.run.Goals as goal

pub loop-i-init : goal.loop-i-init
loop-i-init c = running_start

pub loop-i-preserved : goal.loop-i-preserved
loop-i-preserved c = let at-loop = c.loop-i in
    let i = at-loop.i in
    rw (range_size (12 * i) 12) (running_step at-loop.invariant (rw (range_size (5 * i) 5, at-loop.auto.reply) at c.step.ensures))
