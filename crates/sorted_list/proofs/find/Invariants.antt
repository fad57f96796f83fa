-- `sorted_list::find` meets its contract: a loop over the places left, one probe a turn. Assumes nothing.
use Rattle.sorted_list.proofs.Halving.{Unprobed}
use Rattle.sorted_list.proofs.find.Given as goal

abbrev pub invariant-loop-left : goal.invariant-loop-left
invariant-loop-left l = Unprobed l.list l.x l.lo l.left l.probes

abbrev pub decreases-loop-left : goal.decreases-loop-left
decreases-loop-left l = l.left
