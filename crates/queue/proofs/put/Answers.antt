-- `queue::put` meets its contract: two words stored are a frame stored. Assumes nothing.
use Rattle.std.proofs.Common.{arith, length-set}
use Rattle.queue.proofs.Words.{frames_put, head_put}
use Rattle.queue.proofs.put.Goals as goal

pub bounds-block-k-2 : goal.bounds-block-k-2
bounds-block-k-2 c = simp length-set (omega arith)

pub returns : goal.returns
returns c = let args = c.args in
    (frames_put args.block.now args.i args.f (omega arith), head_put args.block.now args.i _ args.f.bytes)
