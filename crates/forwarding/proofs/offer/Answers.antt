-- `forwarding::offer` meets its contract: the way by lists alone, and what is left of it. Assumes nothing.
use Rattle.forwarding.proofs.Ways.{gone_done}
use Rattle.forwarding.proofs.offer.Goals as goal

pub returns-then-way-ports : goal.returns-then-way-ports
returns-then-way-ports c = rw c.share.ensures (gone_done c.requires.0 c.offer_by_lists-way.ensures c.if-way-ports.true)

pub offer_rest-requires : goal.offer_rest-requires
offer_rest-requires c = (c.requires.0, c.requires.2, (c.args.words.now, c.offer_by_lists-way.ensures))

pub returns : goal.returns
returns c = c.offer_rest.ensures c.args.words.now c.offer_by_lists-way.ensures
