-- `plan_shape::spare_byte` meets its contract: PF is 240 and up where its upper four bits are ones. Assumes nothing.
use native.Mathlib.Omega.{arith}
use Rattle.plan_shape.proofs.Together.{upper_ones, upper_others}
use Rattle.plan_shape.proofs.spare_byte.Goals as goal

pub returns-then-word-eq15 : goal.returns-then-word-eq15
returns-then-word-eq15 c = (rw (upper_ones c.args.word c.if-word-eq15.true), omega arith)

pub returns : goal.returns
returns c = (rw (upper_others c.args.word c.if-word-eq15.false), omega arith)
