-- `queue::count_in` meets its contract: two words go up by one. Assumes nothing.
use Rattle.queue.proofs.Tallies.{counted_in_lem}
use Rattle.queue.proofs.count_in.Goals as goal

pub returns : goal.returns
returns c = counted_in_lem c.args.block.now c.args.priority c.requires.0 c.requires.1
