-- `digit_if` meets its contract: by the test. Assumes nothing.
use native.Mathlib.Omega.{arith}
use borrow.Author.Tests.{eq-eqb, ne_eqb}
use Rattle.text.proofs.Writing.{writing_none}
use Rattle.bench_lines.proofs.digit_if.Goals as goal

pub returns-then-bit-eq1 : goal.returns-then-bit-eq1
returns-then-bit-eq1 c = rw (eq-eqb _ _ c.if-bit-eq1.true) (record { wrote = c.byte.ensures; near = omega arith })

pub returns : goal.returns
returns c = rw (ne_eqb _ _ c.if-bit-eq1.false) (record { wrote = writing_none; near = omega arith })
