-- `put_given` meets its contract: four texts, one after the other. Assumes nothing.
use borrow.Author.Rules.{rules}
use native.Mathlib.Omega.{arith}
use Rattle.text.proofs.Writing.{writing_join}
use Rattle.text.specs.Digits.{hex_of}
use Rattle.text.proofs.Digits.{decimal_long}
use Rattle.bench_lines.specs.Lines.{given_text}
use Rattle.bench_lines.proofs.put_given.Goals as goal

pub decimal-next-requires : goal.decimal-next-requires
unfolding hex_of
decimal-next-requires c = search rules

pub put_data-next-requires : goal.put_data-next-requires
unfolding hex_of
put_data-next-requires c = omega (arith, decimal_long c.args.len c.ranges.len.fits)

pub byte-requires : goal.byte-requires
unfolding hex_of
byte-requires c = omega (arith, decimal_long c.args.len c.ranges.len.fits)

pub returns : goal.returns
unfolding given_text hex_of
returns c = let long = decimal_long c.args.len c.ranges.len.fits in
    let shown = c.put_data-next.ensures in
    let rest = writing_join c.decimal-next.ensures (writing_join shown.wrote c.byte.ensures (omega arith)) (omega arith) in
    writing_join c.put_id-next.ensures rest (omega arith)
