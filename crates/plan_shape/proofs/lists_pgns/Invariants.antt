-- The numbers before i are judged together.
use Rattle.filter.specs.Filter.{filter_of}
use Rattle.plan_shape.proofs.Together.{Judged}
use Rattle.plan_shape.proofs.lists_pgns.Given as goal

abbrev pub invariant-loop-i : goal.invariant-loop-i
invariant-loop-i l = Judged (filter_of l.block).entries l.i l.bits l.spare
