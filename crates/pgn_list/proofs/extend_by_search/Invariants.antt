-- `pgn_list::extend_by_search` meets its contract: a walk over the entries. Assumes nothing.
use Rattle.std.specs.Prelude.{map}
use Rattle.storage.specs.Bytes.{packed}
use Rattle.pgn_list.proofs.Changes.{Held}
use Rattle.pgn_list.proofs.extend_by_search.Given as goal

abbrev pub invariant-loop-entry : goal.invariant-loop-entry
invariant-loop-entry l = Held l.initial.list l.list l.n (map packed l.entries) l.held l.entry-index
