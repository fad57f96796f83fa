-- `queue::waiting` meets its contract: the row has as many frames as the count says, and 32 where it says more. Assumes nothing.
use Rattle.std.proofs.Common.{arith, sym, ◌∙◌}
use Rattle.queue.proofs.Block.{row_length}
use Rattle.queue.proofs.waiting.Goals as goal

pub returns : goal.returns
returns c = (c.min.ensures ∙ sym (row_length c.args.block.now c.requires), omega (arith, c.min.ensures))
