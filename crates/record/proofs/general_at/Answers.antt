-- `record::general_at` meets its contract: there are at most 56 pairs. Assumes nothing.
use native.Mathlib.Omega.{arith}
use Rattle.unit.specs.Count.{pair_count}
use Rattle.unit.proofs.Count.{pairs_most}
use borrow.Author.Rules.{rules}
use Rattle.record.proofs.general_at.Goals as goal

pub overflow_mul-result : goal.overflow_mul-result
unfolding pair_count
overflow_mul-result c = omega (arith, pairs_most {ports = c.args.ports} (omega arith))

pub returns : goal.returns
unfolding pair_count
returns c = search rules
