-- `pgn_list::close_up` meets its contract: from the first place of x on, x is passed over and another moves to the end of those kept. Assumes nothing.
use mathlib.Core.List.{[], ◌∷◌}
use Prim.Native.Nat.{◌≤◌}
use Rattle.pgn_list.proofs.Changes.{Kept}
use Rattle.pgn_list.proofs.close_up.Given as goal

abbrev pub invariant-loop-i : goal.invariant-loop-i
invariant-loop-i l = (l.i ≤ l.n) × Kept (l.x ∷ []) l.initial.list l.list l.n l.kept l.i
