-- `Unit::regions_length` meets its contract: there are at most 56 pairs. Assumes nothing.
use native.Mathlib.Omega.{arith}
use Rattle.unit.specs.Count.{pair_count}
use Rattle.unit.proofs.Count.{pairs_most}
use Rattle.unit.proofs.Unit.regions_length.Goals as goal

pub overflow_mul-pairs : goal.overflow_mul-pairs
unfolding pair_count
overflow_mul-pairs c = omega (arith, pairs_most {ports = c.args.ports} (omega arith))

pub overflow_mul-result-2 : goal.overflow_mul-result-2
unfolding pair_count
overflow_mul-result-2 c = omega (arith, pairs_most {ports = c.args.ports} (omega arith))

pub overflow_add-result-2 : goal.overflow_add-result-2
unfolding pair_count
overflow_add-result-2 c = omega (arith, pairs_most {ports = c.args.ports} (omega arith))

pub overflow_add-result-3 : goal.overflow_add-result-3
unfolding pair_count
overflow_add-result-3 c = omega (arith, pairs_most {ports = c.args.ports} (omega arith))

pub overflow_mul-result-3 : goal.overflow_mul-result-3
unfolding pair_count
overflow_mul-result-3 c = omega (arith, pairs_most {ports = c.args.ports} (omega arith))

pub overflow_add-result-4 : goal.overflow_add-result-4
unfolding pair_count
overflow_add-result-4 c = omega (arith, pairs_most {ports = c.args.ports} (omega arith))

pub returns : goal.returns
unfolding pair_count
returns c = omega arith
