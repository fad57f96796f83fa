-- `queue::counts` meets its contract: ten words are read. Assumes nothing.
use Rattle.queue.proofs.Tallies.{tally_read}
use Rattle.queue.proofs.counts.Goals as goal

pub returns : goal.returns
returns c = tally_read c.args.block.now c.requires
