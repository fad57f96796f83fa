-- `replay` meets its contract: power-on makes the book fresh, and the calls follow it. Assumes nothing.
use native.Mathlib.Omega.{arith}
use Rattle.witness.proofs.Runs.{powered_long, replayed}
use Rattle.witness.proofs.replay.Goals as goal

pub run-requires : goal.run-requires
run-requires c = let p = rw (← c.number-powered.ensures) at c.power_on_ports.ensures in
    (powered_long p c.if-powered-eq2.false, omega (arith, c.min-count.ensures), omega (arith, c.min-count.ensures))

pub returns : goal.returns
returns c = let p = rw (← c.number-powered.ensures) at c.power_on_ports.ensures in
    replayed p c.if-powered-eq2.false c.min-count.ensures c.run.ensures
