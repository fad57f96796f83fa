-- `put_refused` meets its contract: three texts, one after the other. Assumes nothing.
use native.Mathlib.Omega.{arith}
use Rattle.text.proofs.Writing.{writing_join}
use Rattle.text.proofs.Digits.{decimal_long}
use Rattle.bench_lines.specs.Lines.{refused_text}
use Rattle.bench_lines.proofs.put_refused.Goals as goal

pub byte-requires : goal.byte-requires
byte-requires c = omega (arith, decimal_long c.args.number c.ranges.number.fits)

pub returns : goal.returns
unfolding refused_text
returns c = let long = decimal_long c.args.number c.ranges.number.fits in
    writing_join c.copy-next.ensures (writing_join c.decimal-next.ensures c.byte.ensures (omega arith)) (omega arith)
