-- What is used lies before the end of the piece, and that in the log. Assumes nothing.
use Rattle.std.proofs.Common.{◌≤◌, length}
use Rattle.bench_examples.proofs.run_pieces.Given as goal

abbrev pub invariant-pieces : goal.invariant-pieces
invariant-pieces g l = (l.used ≤ l.end) × (l.end ≤ length l.log)
