-- `decimal` meets its contract: the digits of a tenth, then the last. Assumes nothing.
use native.Mathlib.Omega.{arith}
use Rattle.text.proofs.Digits.{decimal_one, decimal_step, decimal_nine}
use Rattle.text.proofs.Writing.{writing_join}
use Rattle.text.proofs.+decimal.Goals as goal

pub returns-then-n-lt10 : goal.returns-then-n-lt10
returns-then-n-lt10 t c = rw (decimal_one _ c.if-n-lt10.true) c.byte.ensures

pub byte-requires-2 : goal.byte-requires-2
byte-requires-2 t c = omega (arith, decimal_nine _ c.ranges.n.fits)

pub returns : goal.returns
returns t c = rw (decimal_step _ c.if-n-lt10.false c.ranges.n.fits) (writing_join c.decimal-next.ensures c.byte-2.ensures (omega (arith, decimal_nine _ c.ranges.n.fits)))
