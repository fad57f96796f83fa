-- `replies::reply_addresses` meets its contract: the addresses are written into the part past the two first bytes. Assumes nothing.
use native.Mathlib.Omega.{arith}
use Rattle.replies.specs.Replies.{address_reply}
use Rattle.replies.proofs.Writing.{replied, listing}
use Rattle.replies.proofs.reply_addresses.Goals as goal

pub returns : goal.returns
unfolding address_reply
returns c = let W = listing c.list_on-n.ensures in
    replied c.args.reply.now (omega arith) W 65 c.args.port (omega (arith, W.answer, W.small)) c.finish.ensures
