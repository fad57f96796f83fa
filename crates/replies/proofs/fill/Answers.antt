-- `replies::fill` meets its contract: eight bytes or more stay, fewer are filled. Assumes nothing.
use Rattle.replies.proofs.Writing.{filled_none, filled_some}
use Rattle.replies.proofs.fill.Goals as goal

pub returns-then-n-ge8 : goal.returns-then-n-ge8
returns-then-n-ge8 c = filled_none c.args.reply.now c.args.n c.if-n-ge8.true c.requires.1

pub returns : goal.returns
returns c = filled_some c.args.reply.now c.args.n c.if-n-ge8.false c.requires.0 (c.fill.ensures.after (λ y e. e))
