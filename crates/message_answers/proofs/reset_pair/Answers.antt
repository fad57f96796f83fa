-- `message_answers::reset_pair` meets its contract: the counter was reset, then acknowledged. Assumes nothing.
use Rattle.message_answers.proofs.Replies.{reset_told}
use Rattle.message_answers.proofs.reset_pair.Goals as goal

pub returns : goal.returns
returns c = reset_told _ c.args.requester c.args.payload.now (rw c.pair_at-counter.ensures.0 at c.reset_losses.ensures) c.acknowledge.ensures
