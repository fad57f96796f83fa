-- `hex` meets its contract. The invariant: the digits of the bytes passed are written. Assumes nothing.
use Rattle.std.proofs.Common.{rules, arith}
use lib.Seq.{take_all}
use Rattle.text.specs.Digits.{hex_of}
use Rattle.text.proofs.Writing.{writing_none}
use Rattle.text.proofs.Digits.{hex_more}
use Rattle.text.proofs.hex.Goals as goal

pub loop-value-init : goal.loop-value-init
unfolding hex_of
loop-value-init c = (search rules, omega arith, writing_none)

pub loop-value-preserved : goal.loop-value-preserved
unfolding hex_of
loop-value-preserved c = let at-loop = c.loop-value in (
  search rules,
  omega arith,
  hex_more at-loop.value-index c.args.bytes.now at-loop.invariant.2 c.pair-next.ensures (omega arith) (omega arith),
)

pub returns : goal.returns
returns c = rw (take_all c.loop-value.value-index c.args.bytes.now (omega arith)) at c.loop-value.invariant.2
