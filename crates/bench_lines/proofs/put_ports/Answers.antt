-- `put_ports` meets its contract: a digit for each port, or -. Assumes nothing.
use native.Mathlib.Omega.{arith}
use Rattle.text.proofs.Writing.{writing_join}
use Rattle.bench_lines.specs.Lines.{ports_text}
use Rattle.bench_lines.proofs.Lines.{no_ports, some_ports}
use Rattle.bench_lines.proofs.put_ports.Goals as goal

pub returns-then-next-at : goal.returns-then-next-at
unfolding ports_text
returns-then-next-at c = let d1 = c.digit_if-next.ensures in
    let d2 = c.digit_if-next-2.ensures in
    let d3 = c.digit_if-next-3.ensures in
    let d4 = c.digit_if-next-4.ensures in
    let all = writing_join d1.wrote (writing_join d2.wrote (writing_join d3.wrote d4.wrote (omega arith)) (omega arith)) (omega arith) in
    record { wrote = no_ports _ all c.if-next-at.true c.byte.ensures (omega arith); near = omega arith }

pub returns : goal.returns
unfolding ports_text
returns c = let d1 = c.digit_if-next.ensures in
    let d2 = c.digit_if-next-2.ensures in
    let d3 = c.digit_if-next-3.ensures in
    let d4 = c.digit_if-next-4.ensures in
    let all = writing_join d1.wrote (writing_join d2.wrote (writing_join d3.wrote d4.wrote (omega arith)) (omega arith)) (omega arith) in
    record { wrote = some_ports _ all c.if-next-at.false; near = omega arith }
