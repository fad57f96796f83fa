-- `put_passed` meets its contract: five texts, one after the other. Assumes nothing.
use native.Mathlib.Omega.{arith}
use Rattle.text.proofs.Writing.{writing_join}
use Rattle.bench_lines.specs.Lines.{passed_text}
use Rattle.bench_lines.proofs.put_passed.Goals as goal

pub returns : goal.returns
unfolding passed_text
returns c = let accepted = c.put_ports-next.ensures in
    let lost = c.put_ports-next-2.ensures in
    let end = writing_join lost.wrote c.byte.ensures (omega arith) in
    let rest = writing_join accepted.wrote (writing_join c.byte-next.ensures end (omega arith)) (omega arith) in
    writing_join c.copy-next.ensures rest (omega arith)
