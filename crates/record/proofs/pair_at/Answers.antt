-- `record::pair_at` meets its contract: by the test on the way. Assumes nothing.
use native.Mathlib.Omega.{arith}
use Prim.Native.Nat.{◌-◌}
use borrow.Author.Tests.{lt-ltb, le-ltb}
use Rattle.unit.proofs.Count.{pairs_most, row_below, pair_below}
use Rattle.record.proofs.pair_at.Goals as goal

pub overflow_add-result : goal.overflow_add-result
overflow_add-result c = let args = c.args in
    omega (arith, row_below {ports = args.ports} {p = args.from} (omega arith), pairs_most {ports = args.ports} (omega arith))

pub returns-then-to-from : goal.returns-then-to-from
returns-then-to-from c = let args = c.args in
    (rw (c.first_pair-first.ensures, lt-ltb args.to args.from c.if-to-from.true), omega (arith, pair_below {ports = args.ports} {p = args.from} {k = args.to} (omega arith) (omega arith)))

pub overflow_add-result-2 : goal.overflow_add-result-2
overflow_add-result-2 c = let args = c.args in
    omega (arith, row_below {ports = args.ports} {p = args.from} (omega arith), pairs_most {ports = args.ports} (omega arith))

pub returns : goal.returns
returns c = let args = c.args in
    (rw (c.first_pair-first.ensures, le-ltb args.to args.from c.if-to-from.false), omega (arith, pair_below {ports = args.ports} {p = args.from} {k = args.to - 1} (omega arith) (omega arith)))
