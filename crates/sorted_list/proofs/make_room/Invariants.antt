-- `sorted_list::make_room` meets its contract: from the end on, each that is above x moves up by one. Assumes nothing.
use Rattle.sorted_list.proofs.Moves.{Making}
use Rattle.sorted_list.proofs.make_room.Given as goal

abbrev pub invariant-loop-i : goal.invariant-loop-i
invariant-loop-i l = Making l.initial.list l.list l.n l.x l.i
