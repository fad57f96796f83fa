-- `deorasaeng_take` meets its contract, by what `bridge::take` ensures. Assumes nothing.
use Rattle.std.specs.Prelude.{refl}
use Rattle.deorasaeng.proofs.Calls.{take_wrong, take_wrong_bytes, take_left, take_told}
use Rattle.deorasaeng.proofs.deorasaeng_take.Goals as goal

pub returns-then-answer-ne-TAKE_WORDS : goal.returns-then-answer-ne-TAKE_WORDS
returns-then-answer-ne-TAKE_WORDS c = take_wrong c.lent_refusal.ensures c.if-answer-ne-TAKE_WORDS.true

pub returns-then-bytes-ne-FRAME_BYTES : goal.returns-then-bytes-ne-FRAME_BYTES
returns-then-bytes-ne-FRAME_BYTES c = take_wrong_bytes c.lent_refusal-then-bytes-ne-FRAME_BYTES.ensures c.if-bytes-ne-FRAME_BYTES.true

pub returns-in-Ok : goal.returns-in-Ok
returns-in-Ok c = take_told (rw c.in-Ok.is at c.take.ensures) c.if-answer-ne-TAKE_WORDS.false c.if-bytes-ne-FRAME_BYTES.false refl c.tell_taken.ensures

pub returns-in-Err : goal.returns-in-Err
returns-in-Err c = rw c.number.ensures (take_left (rw c.in-Err.is at c.take.ensures) c.if-answer-ne-TAKE_WORDS.false c.if-bytes-ne-FRAME_BYTES.false refl)
