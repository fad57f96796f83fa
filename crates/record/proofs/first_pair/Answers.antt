-- `record::first_pair` meets its contract: there are at most 56 pairs. Assumes nothing.
use native.Mathlib.Omega.{arith}
use Rattle.unit.proofs.Count.{pairs_most, row_below}
use Rattle.record.proofs.first_pair.Goals as goal

pub overflow_mul-result : goal.overflow_mul-result
overflow_mul-result c = let args = c.args in
    omega (arith, row_below {ports = args.ports} {p = args.from} (omega arith), pairs_most {ports = args.ports} (omega arith))
