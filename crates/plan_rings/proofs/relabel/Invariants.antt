-- The labels before the index are turned, the others as they were.
use Rattle.plan_rings.proofs.Labels.{RelabeledTo}
use Rattle.plan_rings.proofs.relabel.Given as goal

abbrev pub invariant-loop-label : goal.invariant-loop-label
invariant-loop-label l = RelabeledTo l.from l.to l.initial.labels l.labels l.label-index
