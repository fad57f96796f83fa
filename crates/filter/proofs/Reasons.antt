-- docs/RULES.md, "Forwarding", the reason; ticket 11: "What crosses stays the same." Assumes nothing.
use mathlib.Core.Path.{◌≡◌, refl}
use mathlib.Core.Bool.{Bool, true, false, cond, ◌||◌}
use Prim.Native.Nat.{ℕ, ◌<◌}
use native.Mathlib.Omega.{arith}
use Rattle.entries.specs.Entries.{listed}
use Rattle.filter.specs.declared.Reason.{Reason}
use Rattle.filter.specs.Filter.{Mode, cleared, block, pass, Filter, permits, is_permanent, permitted, reason_of, reason_by_list, crosses, reason_number}

by_mode : (m : Mode) (here : Bool) → crosses (reason_of m here) ≡ permits m here
unfolding reason_of permits
by_mode cleared here = refl
by_mode block true = refl
by_mode block false = refl
by_mode pass true = refl
by_mode pass false = refl

-- for every list and every PGN
pub crosses_same : (f : Filter) (pgn : ℕ) → crosses (reason_by_list f pgn) ≡ permitted f pgn
unfolding reason_by_list permitted
crosses_same f pgn = go (is_permanent pgn)
  where
    go : (b : Bool) → crosses (cond b Reason.Permanent (reason_of f.mode (listed pgn f.entries))) ≡ b || permits f.mode (listed pgn f.entries)
    go true = refl
    go false = by_mode f.mode (listed pgn f.entries)

-- a reason's number is one digit to the base 16
pub reason_below : (r : Reason) → reason_number r < 16
reason_below Reason.NotAsked = omega arith
reason_below Reason.Permanent = omega arith
reason_below Reason.Cleared = omega arith
reason_below Reason.ListedInPass = omega arith
reason_below Reason.NotListedInBlock = omega arith
reason_below Reason.StoppedAsListed = omega arith
reason_below Reason.StoppedAsNotListed = omega arith
