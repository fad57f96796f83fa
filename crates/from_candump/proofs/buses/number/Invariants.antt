-- A number has sixteen digits at most. Assumes nothing.
use Rattle.std.proofs.Common.{◌<◌}
use Rattle.from_candump.proofs.buses.number.Given as goal

abbrev pub invariant-loop-c : goal.invariant-loop-c
invariant-loop-c l = l.value < 10000000000000000
