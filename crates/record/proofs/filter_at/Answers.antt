-- `record::filter_at` meets its contract: there are at most 56 pairs. Assumes nothing.
use native.Mathlib.Omega.{arith}
use Rattle.unit.proofs.Count.{pairs_most}
use Rattle.record.proofs.filter_at.Goals as goal

pub overflow_mul-result-2 : goal.overflow_mul-result-2
overflow_mul-result-2 c = omega (arith, pairs_most {ports = c.args.ports} (omega arith))

pub overflow_add-result-2 : goal.overflow_add-result-2
overflow_add-result-2 c = omega (arith, pairs_most {ports = c.args.ports} (omega arith))
