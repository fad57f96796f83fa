-- `queue::get` meets its contract: two words of the block are a frame of it. Assumes nothing.
use Rattle.std.proofs.Common.{◌+◌, ◌*◌, arith}
use Rattle.queue.proofs.Words.{frames_get}
use Rattle.queue.proofs.get.Goals as goal

pub overflow_cast-result-2 : goal.overflow_cast-result-2
overflow_cast-result-2 c = omega (arith, c.type_inv.block (2 * c.args.i + 11))

pub returns : goal.returns
returns c = frames_get c.args.block.now c.args.i (omega arith)
