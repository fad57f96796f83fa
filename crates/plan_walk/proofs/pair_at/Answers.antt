-- `plan_walk::pair_at` meets its contract: by the test on the way. Assumes nothing.
use native.Mathlib.Omega.{arith}
use borrow.Author.Tests.{lt-ltb, le-ltb}
use Rattle.plan_walk.proofs.pair_at.Goals as goal

pub returns-then-to-from : goal.returns-then-to-from
returns-then-to-from c = let args = c.args in (rw (lt-ltb args.to args.from c.if-to-from.true) (omega arith), omega arith)

pub returns-else-to-from : goal.returns-else-to-from
returns-else-to-from c = let args = c.args in (rw (le-ltb args.to args.from c.if-to-from.false) (omega arith), omega arith)
