-- `run` meets its contract: the steps so far are a run once the rest is run behind them. Assumes nothing.
use mathlib.Core.Bool.{true, false}
use Prim.Native.Nat.{◌-◌}
use lib.ListN.{length}
use Rattle.bench_log.proofs.Pieces.{Going}
use Rattle.bench_log.proofs.run.Given as goal

abbrev pub invariant-steps : goal.invariant-steps
invariant-steps l = Going l.initial.words l.words l.log l.last l.initial.out l.out l.used l.written false true

abbrev pub decreases-steps : goal.decreases-steps
decreases-steps l = length l.log - l.used
