-- `record::counter_at` meets its contract: there are at most 56 pairs. Assumes nothing.
use native.Mathlib.Omega.{arith}
use Rattle.unit.proofs.Count.{pairs_most}
use Rattle.record.proofs.counter_at.Goals as goal

pub overflow_add-result : goal.overflow_add-result
overflow_add-result c = omega (arith, pairs_most {ports = c.args.ports} (omega arith))
