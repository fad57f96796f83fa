-- `forwarding::count_loss` meets its contract, in the one counter after the other. Assumes nothing.
use Rattle.forwarding.proofs.Sends.{lost_both}
use Rattle.forwarding.proofs.count_loss.Goals as goal

pub returns : goal.returns
returns c = lost_both (rw c.pair_at-pair.ensures.0 at c.count_loss.ensures) (rw c.general_at-general.ensures at c.count_loss-2.ensures)
