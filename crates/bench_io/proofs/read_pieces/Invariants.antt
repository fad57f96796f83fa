-- What is left of a piece stands at the front of the buffer. Assumes nothing.
use Rattle.std.proofs.Common.{◌≡◌, ◌≤◌, length}
use Rattle.bench_io.proofs.read_pieces.Given as goal

abbrev pub invariant-reads : goal.invariant-reads
invariant-reads g l = (l.left ≤ length l.buffer) × (length l.buffer ≡ length l.initial.buffer)
