-- `replies::reply_list` meets its contract: the body is written into the part past the two first bytes. Assumes nothing.
use native.Mathlib.Omega.{arith}
use Rattle.replies.specs.Replies.{list_reply}
use Rattle.replies.proofs.Writing.{replied}
use Rattle.replies.proofs.reply_list.Goals as goal

pub returns : goal.returns
unfolding list_reply
returns c = replied c.args.reply.now (omega arith) c.put_list-n.ensures 1 c.args.pair (omega (arith, c.put_list-n.ensures.answer, c.put_list-n.ensures.small)) c.finish.ensures
