-- `put_tail` meets its contract: four texts, one after the other. Assumes nothing.
use borrow.Author.Rules.{rules}
use native.Mathlib.Omega.{arith}
use Rattle.text.specs.Digits.{hex_of}
use Rattle.text.proofs.Writing.{writing_join}
use Rattle.text.proofs.Digits.{hex_take_long}
use Rattle.candump.proofs.put_tail.Goals as goal

pub byte-next-requires : goal.byte-next-requires
unfolding hex_of
byte-next-requires c = search rules

pub word-next-requires : goal.word-next-requires
unfolding hex_of
word-next-requires c = (omega arith, search rules)

pub byte-requires : goal.byte-requires
unfolding hex_of
byte-requires c = omega (arith, hex_take_long c.args.len c.args.bytes (omega arith))

pub returns : goal.returns
unfolding hex_of
returns c = let long = hex_take_long c.args.len c.args.bytes (omega arith) in
    writing_join (writing_join (writing_join c.eight_digits-next.ensures c.byte-next.ensures (omega arith)) c.word-next.ensures (omega arith)) c.byte.ensures
    (omega arith)
