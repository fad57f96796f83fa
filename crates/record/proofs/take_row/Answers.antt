-- `record::take_row` meets its contract: the queue's block was lent and came back. Assumes nothing.
use Prim.Native.Nat.{◌+◌, ◌*◌}
use native.Mathlib.Omega.{arith}
use Rattle.storage.proofs.Parts.{range_size}
use Rattle.record.proofs.Regions.{row_taken}
use borrow.Author.Rules.{rules}
use Rattle.unit.specs.Model.{rows_from}
use Rattle.queue.specs.Queue.{block_length as queue_length}
use Rattle.record.proofs.take_row.Goals as goal

pub returns : goal.returns
returns c = let args = c.args in
    λ ports more. rw (range_size (rows_from + queue_length * args.q) queue_length)
    (row_taken args.words.now args.q (search rules) ports more c.take.new.block (omega arith) c.take.result
    (rw (range_size (rows_from + queue_length * args.q) queue_length) at c.take.ensures))
