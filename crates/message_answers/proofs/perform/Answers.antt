-- `message_answers::perform` meets its contract: the refusal of a payload is acknowledged. Assumes nothing.
use Rattle.message_answers.specs.Messages.{performed_by}
use Rattle.message_answers.proofs.Replies.{number_by, told_by, refusal_told}
use Rattle.message_answers.proofs.perform.Goals as goal

pub returns-in-Err : goal.returns-in-Err
unfolding performed_by
returns-in-Err c =
    rw c.in-Err.is (refusal_told _ _ c.args.requester c.args.payload.now (rw (c.into.ensures, number_by c.in-Err.wrong, told_by c.in-Err.wrong) at c.acknowledge.ensures))
