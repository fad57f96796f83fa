-- `deorasaeng_start` meets its contract, by what `bridge::start` ensures. Assumes nothing.
use Rattle.std.specs.Prelude.{refl}
use Rattle.deorasaeng.proofs.Calls.{not_none, start_wrong, start_refused_lem, start_done}
use Rattle.deorasaeng.proofs.deorasaeng_start.Goals as goal

pub returns-then-answer-ne-START_WORDS : goal.returns-then-answer-ne-START_WORDS
returns-then-answer-ne-START_WORDS c = rw c.number.ensures (start_wrong c.if-answer-ne-START_WORDS.true)

pub returns-in-Ok : goal.returns-in-Ok
returns-in-Ok c = start_done (rw c.in-Ok.is at c.start.ensures) c.if-answer-ne-START_WORDS.false refl (rw c.word.ensures at c.copy_from_slice.ensures.after)

pub returns-in-Err : goal.returns-in-Err
returns-in-Err c = rw c.number-in-Err.ensures (start_refused_lem (rw c.in-Err.is at c.start.ensures) c.if-answer-ne-START_WORDS.false (not_none _))
