-- `put_id` meets its contract: three texts, one after the other. Assumes nothing.
use borrow.Author.Rules.{rules}
use native.Mathlib.Omega.{arith}
use Rattle.text.proofs.Writing.{writing_join}
use Rattle.text.specs.Digits.{hex_of}
use Rattle.bench_lines.proofs.put_id.Goals as goal

pub byte-requires : goal.byte-requires
unfolding hex_of
byte-requires c = search rules

pub returns : goal.returns
unfolding hex_of
returns c = writing_join c.copy-next.ensures (writing_join c.eight_digits-next.ensures c.byte.ensures (omega arith)) (omega arith)
