-- `deorasaeng_message` meets its contract, by what `bridge::message` ensures. Assumes nothing.
use Rattle.deorasaeng.proofs.Calls.{message_wrong, message_done}
use Rattle.deorasaeng.proofs.deorasaeng_message.Goals as goal

pub returns-then-answer-ne-MESSAGE_WORDS : goal.returns-then-answer-ne-MESSAGE_WORDS
returns-then-answer-ne-MESSAGE_WORDS c = message_wrong c.lent_refusal.ensures c.if-answer-ne-MESSAGE_WORDS.true

pub returns : goal.returns
returns c = rw c.number.ensures (message_done c.message-a.ensures c.if-answer-ne-MESSAGE_WORDS.false (rw c.told-told.ensures at c.copy_from_slice.ensures.after))
