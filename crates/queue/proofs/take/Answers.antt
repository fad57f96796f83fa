-- `queue::take` meets its contract, by the laws of `Block` and what each step ensures. Assumes nothing.
use Rattle.std.proofs.Common.{◌-◌, arith, length-set}
use Rattle.queue.proofs.Block.{took_nothing, took}
use Rattle.queue.proofs.take.Goals as goal

pub returns-then-n-eq0 : goal.returns-then-n-eq0
returns-then-n-eq0 c = took_nothing c.args.block.now c.requires c.waiting-n.result c.waiting-n.ensures.0 (omega arith)

pub count_out-requires : goal.count_out-requires
count_out-requires c = (simp length-set (omega arith), omega (arith, c.priority.ensures))

pub shape_of-block : goal.shape_of-block
shape_of-block c = omega (arith, length-set c.close_up.new.block 0 (c.waiting-n.result - 1))

pub returns : goal.returns
returns c = took c.args.block.now c.requires c.waiting-n.result c.waiting-n.ensures.0 c.close_up.new.block c.count_out.new.block c.first-at.result c.get-f.result
    (omega arith) (omega (arith, length-set c.close_up.new.block 0 (c.waiting-n.result - 1))) c.first-at.ensures c.get-f.ensures c.close_up.ensures.0 c.close_up.ensures.1 (rw c.priority.ensures at c.count_out.ensures)
