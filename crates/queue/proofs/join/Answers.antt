-- `queue::join` meets its contract, by the laws of `Block` and what each step ensures. Assumes nothing.
use Rattle.std.proofs.Common.{◌+◌, arith, length-set}
use Rattle.queue.proofs.Block.{joined_in, lost}
use Rattle.queue.proofs.join.Goals as goal

pub count_in-requires : goal.count_in-requires
count_in-requires c = (simp length-set (omega arith), omega (arith, c.priority.ensures))

pub shape_of-block-then-n-lt-SIZE : goal.shape_of-block-then-n-lt-SIZE
shape_of-block-then-n-lt-SIZE c = omega (arith, length-set c.put.new.block 0 (c.waiting-n.result + 1))

pub returns-then-n-lt-SIZE : goal.returns-then-n-lt-SIZE
returns-then-n-lt-SIZE c = joined_in c.args.block.now c.requires c.waiting-n.result c.waiting-n.ensures.0 c.put.new.block c.count_in.new.block c.args.f (omega arith)
    (omega arith) (omega (arith, length-set c.put.new.block 0 (c.waiting-n.result + 1))) c.put.ensures.0 c.put.ensures.1 (rw c.priority.ensures at c.count_in.ensures)

pub returns : goal.returns
returns c = lost c.args.block.now c.requires c.waiting-n.result c.waiting-n.ensures.0 c.args.f (omega arith)
