-- `list_commands::first_pair` meets its contract: a port's pairs are among the pairs. Assumes nothing.
use mathlib.Core.Path.{refl}
use Prim.Native.Nat.{◌-◌}
use native.Mathlib.Omega.{arith}
use Rattle.unit.proofs.Count.{pairs_most, row_within}
use Rattle.list_commands.proofs.first_pair.Goals as goal

pub overflow_mul-result : goal.overflow_mul-result
overflow_mul-result c = omega (arith, row_within {ports = c.args.ports} {p = c.args.from - 1} (omega arith), pairs_most {ports = c.args.ports} (omega arith))

pub returns : goal.returns
returns c = let row = row_within {ports = c.args.ports} {p = c.args.from - 1} (omega arith) in
    (refl, row, omega (arith, row, pairs_most {ports = c.args.ports} (omega arith)))
