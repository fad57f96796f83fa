-- `forwarding::count_losses` meets its contract: the loop over the set, a bit at a time. Assumes nothing.
use Rattle.forwarding.proofs.Loop.{Counted}
use Rattle.forwarding.proofs.count_losses.Given as goal

abbrev pub invariant-loop-to : goal.invariant-loop-to
invariant-loop-to l = Counted l.ports l.initial.words l.from l.lost l.words l.set l.to
