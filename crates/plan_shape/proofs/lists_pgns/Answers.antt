-- `plan_shape::lists_pgns` meets its contract: a walk over the list, whose numbers are judged together. Assumes nothing.
use native.Mathlib.Omega.{arith}
use borrow.Author.Tests.{le-ltb}
use Rattle.plan_shape.proofs.Together.{judged_none, judged_on, judged_narrow, judged_wide}
use Rattle.plan_shape.proofs.lists_pgns.Goals as goal

pub loop-i-init : goal.loop-i-init
loop-i-init c = judged_none _

pub overflow_add-spare : goal.overflow_add-spare
overflow_add-spare c = omega (arith, c.loop-i.invariant.small, c.spare_byte-spare.ensures.1)

pub loop-i-preserved : goal.loop-i-preserved
loop-i-preserved c = judged_on c.loop-i.invariant c.spare_byte-spare.result (omega arith) c.pgn_at-listed.ensures c.spare_byte-spare.ensures.0 c.spare_byte-spare.ensures.1

pub returns-then-bits-lt262144 : goal.returns-then-bits-lt262144
returns-then-bits-lt262144 c = judged_narrow c.loop-i.invariant (omega arith) c.if-bits-lt262144.true

pub returns-else-bits-lt262144 : goal.returns-else-bits-lt262144
returns-else-bits-lt262144 c = rw (le-ltb _ _ c.if-bits-lt262144.false) (judged_wide c.loop-i.invariant (omega arith) c.if-bits-lt262144.false)
