-- `pgn_list::index::extend` meets its contract: the walk of `extend_by_search`, with an index that notes what joins the end. Assumes nothing.
use Rattle.std.specs.Prelude.{map}
use Rattle.storage.specs.Bytes.{packed}
use Rattle.pgn_list.specs.Slots.{Indexed}
use Rattle.pgn_list.proofs.Changes.{Held}
use Rattle.pgn_list.proofs.index.extend.Given as goal

abbrev pub invariant-loop-entry : goal.invariant-loop-entry
invariant-loop-entry l = Held l.initial.list l.list l.n (map packed l.entries) l.held l.entry-index × Indexed l.list l.held l.index
