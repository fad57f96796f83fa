-- `queue::count_out` meets its contract: one word goes down by one, one up. Assumes nothing.
use Rattle.queue.proofs.Tallies.{counted_out_lem}
use Rattle.queue.proofs.count_out.Goals as goal

pub returns : goal.returns
returns c = counted_out_lem c.args.block.now c.args.priority c.requires.0 c.requires.1
