-- Each turn uses some of the piece, or is the last. Assumes nothing.
use Rattle.std.proofs.Common.{◌≡◌, ◌-◌, ◌≤◌, length}
use Rattle.bench_io.proofs.write_turns.Given as goal

abbrev pub invariant-turns : goal.invariant-turns
invariant-turns g l = (l.used ≤ length l.piece) × (length l.out ≡ length l.initial.out)

abbrev pub decreases-turns : goal.decreases-turns
decreases-turns g l = length l.piece - l.used
