-- `pgn_list::keep_others_by_search` meets its contract: what one entry leaves is left to the next. Assumes nothing.
use Rattle.std.specs.Prelude.{map}
use Rattle.storage.specs.Bytes.{packed}
use Rattle.pgn_list.proofs.Removing.{Removed}
use Rattle.pgn_list.proofs.keep_others_by_search.Given as goal

abbrev pub invariant-loop-entry : goal.invariant-loop-entry
invariant-loop-entry l = Removed l.initial.list l.list l.n (map packed l.entries) l.kept l.entry-index
