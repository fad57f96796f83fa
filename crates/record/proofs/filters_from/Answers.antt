-- `record::filters_from` meets its contract: the filter of the first pair begins there. Assumes nothing.
use native.Mathlib.Omega.{arith}
use Rattle.unit.proofs.Count.{row_below}
use Rattle.record.proofs.filters_from.Goals as goal

pub filter_at-requires : goal.filter_at-requires
filter_at-requires c = let args = c.args in
    omega (arith, row_below {ports = args.ports} {p = args.from} (omega arith))
