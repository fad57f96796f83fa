-- `replies::put_list` meets its contract: the mode, then the entries. The loop's invariant is `Entered`. Assumes nothing.
use Rattle.filter.specs.Filter.{filter_of}
use Rattle.replies.proofs.Writing.{Entered}
use Rattle.replies.proofs.put_list.Given as goal

abbrev pub invariant-loop-i : goal.invariant-loop-i
invariant-loop-i l = Entered (filter_of l.block).entries l.initial.out l.out l.i
