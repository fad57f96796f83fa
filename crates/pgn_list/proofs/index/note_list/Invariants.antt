-- `pgn_list::index::note_list` meets its contract: a number is noted at each turn. Assumes nothing.
use Rattle.pgn_list.specs.Slots.{Indexed}
use Rattle.pgn_list.proofs.index.note_list.Given as goal

abbrev pub invariant-loop-i : goal.invariant-loop-i
invariant-loop-i l = Indexed l.list l.i l.index
