-- `tell_plan` meets its contract: by the way that the code went. Assumes nothing.
use native.Mathlib.Omega.{arith}
use Rattle.deorasaeng.proofs.Tells.{tell_wrong, tell_heard, tell_refused}
use Rattle.deorasaeng.proofs.tell_plan.Goals as goal

pub returns-then-answer-ne-PLAN_WORDS : goal.returns-then-answer-ne-PLAN_WORDS
returns-then-answer-ne-PLAN_WORDS c = rw c.number.ensures (tell_wrong c.if-answer-ne-PLAN_WORDS.true)

pub returns-in-Ok : goal.returns-in-Ok
returns-in-Ok c = tell_heard c.in-Ok.segments c.in-Ok.is (omega arith)

pub returns-in-Err : goal.returns-in-Err
returns-in-Err c = rw c.number-in-Err.ensures (tell_refused c.in-Err.is (omega arith))
