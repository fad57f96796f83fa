-- `take_told` meets its contract, by what `Queue::take` ensures. Assumes nothing.
use Rattle.deorasaeng.proofs.Calls.{queue_wrong, queue_wrong_bytes, queue_told}
use Rattle.deorasaeng.proofs.take_told.Goals as goal

pub returns-then-answer-ne-TAKE_WORDS : goal.returns-then-answer-ne-TAKE_WORDS
returns-then-answer-ne-TAKE_WORDS c = rw c.number.ensures (queue_wrong c.if-answer-ne-TAKE_WORDS.true)

pub returns-then-bytes-ne-FRAME_BYTES : goal.returns-then-bytes-ne-FRAME_BYTES
returns-then-bytes-ne-FRAME_BYTES c = rw c.number-then-bytes-ne-FRAME_BYTES.ensures (queue_wrong_bytes c.if-bytes-ne-FRAME_BYTES.true)

pub returns : goal.returns
returns c = queue_told c.take-t.ensures c.if-answer-ne-TAKE_WORDS.false c.if-bytes-ne-FRAME_BYTES.false c.tell_taken.ensures
