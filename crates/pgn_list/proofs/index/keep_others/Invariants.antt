-- `pgn_list::index::keep_others` meets its contract: the walk over the list, with an index of the entries. Assumes nothing.
use Rattle.std.specs.Prelude.{map}
use Rattle.storage.specs.Bytes.{packed}
use Prim.Native.Nat.{◌≤◌}
use Rattle.pgn_list.proofs.Changes.{Kept}
use Rattle.pgn_list.proofs.index.keep_others.Given as goal

abbrev pub invariant-loop-i : goal.invariant-loop-i
invariant-loop-i l = (l.i ≤ l.n) × Kept (map packed l.entries) l.initial.list l.list l.n l.kept l.i
