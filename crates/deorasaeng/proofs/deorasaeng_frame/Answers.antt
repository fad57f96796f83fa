-- `deorasaeng_frame` meets its contract, by what `bridge::frame` ensures. Assumes nothing.
use Rattle.std.specs.Prelude.{refl}
use Rattle.deorasaeng.proofs.Calls.{not_none, frame_wrong, frame_refused_lem, frame_done_lem}
use Rattle.deorasaeng.proofs.deorasaeng_frame.Goals as goal

pub returns-then-answer-ne-FRAME_WORDS : goal.returns-then-answer-ne-FRAME_WORDS
returns-then-answer-ne-FRAME_WORDS c = frame_wrong c.lent_refusal.ensures c.if-answer-ne-FRAME_WORDS.true

pub returns-in-Ok : goal.returns-in-Ok
returns-in-Ok c = frame_done_lem (rw c.in-Ok.is at c.frame.ensures) c.if-answer-ne-FRAME_WORDS.false refl c.tell_frame.ensures

pub returns-in-Err : goal.returns-in-Err
returns-in-Err c = rw c.number.ensures (frame_refused_lem (rw c.in-Err.is at c.frame.ensures) c.if-answer-ne-FRAME_WORDS.false (not_none _))
