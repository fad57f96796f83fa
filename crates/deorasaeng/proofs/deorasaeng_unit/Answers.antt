-- `deorasaeng_unit` meets its contract, by what `bridge::unit` ensures. Assumes nothing.
use Rattle.std.specs.Prelude.{refl}
use Rattle.deorasaeng.proofs.Calls.{unit_wrong, unit_left, unit_told}
use Rattle.deorasaeng.proofs.deorasaeng_unit.Goals as goal

pub returns-then-answer-ne-UNIT_WORDS : goal.returns-then-answer-ne-UNIT_WORDS
returns-then-answer-ne-UNIT_WORDS c = rw c.number.ensures (unit_wrong c.if-answer-ne-UNIT_WORDS.true)

pub returns-in-Ok : goal.returns-in-Ok
returns-in-Ok c = unit_told (rw c.in-Ok.is at c.unit-told.ensures) c.if-answer-ne-UNIT_WORDS.false refl c.tell_unit.ensures

pub returns-in-Err : goal.returns-in-Err
returns-in-Err c = rw c.number-in-Err.ensures (unit_left (rw c.in-Err.is at c.unit-told.ensures) c.if-answer-ne-UNIT_WORDS.false refl)
