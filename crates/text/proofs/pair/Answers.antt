-- `pair` meets its contract: two digits, one after the other. Assumes nothing.
use native.Mathlib.Omega.{arith}
use Rattle.text.specs.Digits.{hex_of}
use Rattle.text.proofs.Writing.{writing_join}
use Rattle.text.proofs.Digits.{high_digit}
use Rattle.text.proofs.pair.Goals as goal

pub returns : goal.returns
unfolding hex_of
returns c = let high = c.digit.ensures in
    let low = c.digit-2.ensures in
    writing_join (rw (high, high_digit c.ranges.value.fits) at c.byte-next.ensures) (rw low at c.byte.ensures) (omega arith)
