-- `put_data` meets its contract: nothing, or a blank and the bytes. Assumes nothing.
use native.Mathlib.Omega.{arith}
use Rattle.text.proofs.Writing.{writing_join}
use borrow.Author.Tests.{eq-eqb, ne_eqb}
use Rattle.text.proofs.Writing.{writing_none}
use Rattle.text.proofs.Digits.{hex_take_long}
use Rattle.bench_lines.proofs.Lines.{no_ninth}
use Rattle.bench_lines.proofs.put_data.Goals as goal

pub returns-then-len-eq0 : goal.returns-then-len-eq0
returns-then-len-eq0 c = rw (eq-eqb _ _ c.if-len-eq0.true) (record { wrote = writing_none; near = omega arith })

pub returns-then-len-gt8 : goal.returns-then-len-gt8
returns-then-len-gt8 c = let args = c.args in
    let long = hex_take_long 8 args.bytes (omega arith) in
    rw (ne_eqb _ _ c.if-len-eq0.false, no_ninth args.len args.bytes c.if-len-gt8.true)
    (record { wrote = writing_join c.byte-next.ensures c.word.ensures (omega arith); near = omega arith })

pub returns : goal.returns
returns c = let args = c.args in
    let long = hex_take_long args.len args.bytes (omega arith) in
    rw (ne_eqb _ _ c.if-len-eq0.false) (record { wrote = writing_join c.byte-next.ensures c.word-2.ensures (omega arith); near = omega arith })
