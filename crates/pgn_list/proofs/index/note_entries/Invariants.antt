-- `pgn_list::index::note_entries` meets its contract: an entry is noted at each turn. Assumes nothing.
use Rattle.std.specs.Prelude.{map}
use Rattle.storage.specs.Bytes.{packed}
use Rattle.pgn_list.specs.Slots.{Indexed}
use Rattle.pgn_list.proofs.index.note_entries.Given as goal

abbrev pub invariant-loop-i : goal.invariant-loop-i
invariant-loop-i l = Indexed (map packed l.entries) l.i l.index
