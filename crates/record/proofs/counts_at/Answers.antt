-- `record::counts_at` meets its contract: the queue's block is lent to be read. Assumes nothing.
use mathlib.Core.Path.{sym, ap, ◌∙◌}
use Prim.Native.Nat.{◌+◌, ◌*◌}
use Rattle.storage.proofs.Parts.{range_size}
use Rattle.queue.specs.Queue.{Queued, queue_of, block_length as queue_length}
use Rattle.unit.specs.Model.{rows_from}
use Rattle.record.proofs.Regions.{queue_of_lem}
use borrow.Author.Rules.{rules}
use Rattle.record.proofs.counts_at.Goals as goal

pub returns : goal.returns
unfolding queue_of
returns c = λ ports more.
    let args = c.args in
    (rw (range_size (rows_from + queue_length * args.q) queue_length) at c.counts.ensures)
    ∙ sym (ap (λ (x : Queued). x.tally) (queue_of_lem args.words.now args.q (search rules) ports more))
