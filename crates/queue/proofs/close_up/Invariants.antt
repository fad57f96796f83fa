-- `queue::close_up` meets its contract. The loop's invariant: up to `place` the frames without frame `at`, from there on the frames as they were. Assumes nothing.
use Rattle.std.proofs.Common.{◌≡◌, length}
use Rattle.queue.specs.Queue.{block_length, head, frames_of}
use Rattle.queue.proofs.Lists.{shifted}
use Rattle.queue.proofs.close_up.Given as goal

abbrev pub invariant-loop-place : goal.invariant-loop-place
invariant-loop-place l = (length l.block ≡ block_length) × (frames_of l.block ≡ shifted l.at l.place (frames_of l.initial.block)) × (head l.block ≡ head l.initial.block)
