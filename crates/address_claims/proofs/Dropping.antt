-- The drop of a NAME's other addresses, as a loop does it: the places passed are as the drop leaves them, the others as they were. Assumes nothing.
use Rattle.std.specs.Prelude.{None}
use mathlib.Core.Path.{◌≡◌, refl, sym, ap, ◌∙◌}
use mathlib.Core.Bool.{Bool, true, false, ◌||◌, or-true, or-false}
use mathlib.Core.List.{List, [], ◌∷◌, ◌++◌, append-nil}
use Prim.Native.Nat.{ℕ, zero, suc, ◌+◌, ◌-◌, ◌≤◌, ◌<◌}
use native.Mathlib.Nat.{not-suc-le-zero, le_of_suc-le-suc}
use native.Mathlib.Decide.{ℕ_discrete}
use native.Mathlib.Numerals.{add-one}
use native.Mathlib.Omega.{arith}
use lib.ListN.{length, get_or, set, take, drop, length-set, drop_of_length-le}
use lib.Seq.{get_or-set_same, get_or-set_other, set-get_or, take_all}
use Rattle.addresses.specs.Table.{places, table_length, table_of, held_by, stands_in, Place}
use Rattle.address_claims.specs.Claims.{without, others_dropped, stands_elsewhere}
use Rattle.address_claims.specs.Calls.{Dropping}
use Rattle.addresses.specs.Steps.{Skipping}
use Rattle.addresses.proofs.Words.{table_length_lem, by_absent}
use Rattle.addresses.proofs.Skipping.{skip_rest}
use Rattle.address_claims.proofs.Places.{moved_length, moved_other, dropped_kept}
use Rattle.addresses.proofs.Standing.{stands_more}

-- ---- the first i of the new list, the others of the old one
abbrev passing : ℕ → List Place → List Place → List Place
passing i new old = take i new ++ drop i old

passing_here : (new old : List Place) (i : ℕ) → length new ≡ length old → i < length old → get_or (passing i new old) i None ≡ get_or old i None
passing_here new [] i n h = absurd (not-suc-le-zero h)
passing_here [] (y ∷ ys) i n h = absurd (omega arith)
passing_here (x ∷ xs) (y ∷ ys) zero n h = refl
passing_here (x ∷ xs) (y ∷ ys) (suc i) n h = passing_here xs ys i (omega arith) (le_of_suc-le-suc h)

passing_more : (new old : List Place) (i : ℕ) → length new ≡ length old → i < length old → set (passing i new old) i (get_or new i None) ≡ passing (suc i) new old
passing_more new [] i n h = absurd (not-suc-le-zero h)
passing_more [] (y ∷ ys) i n h = absurd (omega arith)
passing_more (x ∷ xs) (y ∷ ys) zero n h = refl
passing_more (x ∷ xs) (y ∷ ys) (suc i) n h = ap {B = List Place} (λ l. x ∷ l) (passing_more xs ys i (omega arith) (le_of_suc-le-suc h))

passing_done : (new old : List Place) (i : ℕ) → length new ≤ i → length old ≤ i → passing i new old ≡ new
passing_done new old i n o = rw (take_all i new n, drop_of_length-le old {i = i} o) (append-nil new)

-- ---- the loop
pub record Passed (start words : List ℕ) (name keep : ℕ) (dropped : Bool) (i : ℕ) : Type 0 where
  pub long : length words ≡ table_length
  pub within : i ≤ places
  pub table : table_of words ≡ passing i (others_dropped name keep (table_of start)) (table_of start)
  pub flag : dropped ≡ stands_in name (take i (set (table_of start) keep None))

module _ {start : List ℕ} {name keep : ℕ} where
  pub passed_start : length start ≡ table_length → Passed start start name keep false 0
  unfolding stands_in
  passed_start h = record { long = h; within = omega arith; table = refl; flag = refl }

  pub passed_done : {words : List ℕ} {dropped : Bool} {i : ℕ} → Passed start words name keep dropped i → places ≤ i → Dropping start words name keep dropped
  unfolding stands_elsewhere
  passed_done {words} {dropped} {i} P h =
      let n = table_length_lem start in
      record {
        table = P.table ∙ passing_done (others_dropped name keep (table_of start)) (table_of start) i (omega (arith, moved_length name keep (get_or (table_of start) keep None) (table_of start))) (omega arith);
        answer = P.flag ∙ ap (stands_in name) (take_all i (set (table_of start) keep None) (omega (arith, length-set (table_of start) keep None)));
      }

  module _ {words : List ℕ} {dropped : Bool} {i : ℕ} (P : Passed start words name keep dropped i) (h : i < places) where
    here : get_or (table_of words) i None ≡ get_or (table_of start) i None
    here =
        rw P.table
        (passing_here (others_dropped name keep (table_of start)) (table_of start) i (moved_length name keep (get_or (table_of start) keep None) (table_of start)) (omega (arith, table_length_lem start)))

    -- one more place, which becomes what the drop leaves of it
    more : {after : List ℕ} (found : Bool) → length after ≡ table_length → table_of after ≡ set (table_of words) i (get_or (others_dropped name keep (table_of start)) i None) → held_by name (get_or (set (table_of start) keep None) i None) ≡ found → Passed start after name keep (dropped || found) (i + 1)
    more found long t f =
        let n = table_length_lem start in
        record {
          long = long;
          within = omega arith;
          table = t ∙ rw (P.table, add-one i) (passing_more (others_dropped name keep (table_of start)) (table_of start) i (moved_length name keep (get_or (table_of start) keep None) (table_of start)) (omega arith));
          flag = rw (add-one i, stands_more name (set (table_of start) keep None) i (omega (arith, length-set (table_of start) keep None)), ← P.flag, f);
        }

    -- a place that stays as it is
    stay : get_or (others_dropped name keep (table_of start)) i None ≡ get_or (table_of start) i None → held_by name (get_or (set (table_of start) keep None) i None) ≡ false → Passed start words name keep dropped (i + 1)
    stay same f =
        let t : table_of words ≡ set (table_of words) i (get_or (others_dropped name keep (table_of start)) i None) = rw (same, ← here) (sym (set-get_or (table_of words) i None)) in
        rw (or-false dropped) at (more {after = words} false P.long t f)

    pub passed_keep : i ≡ keep → Passed start words name keep dropped (i + 1)
    unfolding held_by
    passed_keep e =
        stay (rw e (dropped_kept name keep (table_of start)))
        (rw (e, get_or-set_same (table_of start) keep None None (omega (arith, table_length_lem start))))

    module _ {r : Bool} (asked : r ≡ held_by name (get_or (table_of words) i None)) where
      held : held_by name (get_or (table_of start) i None) ≡ r
      held = rw (← here) (sym asked)

      other : (i ≡ keep → ⊥) → held_by name (get_or (set (table_of start) keep None) i None) ≡ r
      other ne = rw (get_or-set_other (table_of start) keep i None None ne) held

      pub passed_free : r ≡ false → Passed start words name keep dropped (i + 1)
      unfolding without
      passed_free f =
          elim (ℕ_discrete i keep) [
            | yes e ↦ passed_keep e
            | no ne ↦ stay (moved_other name keep (get_or (table_of start) keep None) (table_of start) i ne ∙ rw (held, f)) (other ne ∙ f)
          ]

      pub passed_drop : {after : List ℕ} → r ≡ true → (i ≡ keep → ⊥) → length after ≡ table_length → table_of after ≡ set (table_of words) i None → Passed start after name keep true (i + 1)
      unfolding without
      passed_drop {after} t ne long put =
          let gone : get_or (others_dropped name keep (table_of start)) i None ≡ None = moved_other name keep (get_or (table_of start) keep None) (table_of start) i ne ∙ rw (held, t) in
          rw (or-true dropped) at (more {after = after} true long (rw gone put) (other ne ∙ t))

  -- places that the NAME does not hold stay as they are
  pub passed_others : {words : List ℕ} {dropped : Bool} {r : ℕ} (k i : ℕ) → r ≡ i + k → Skipping words 1 i name r → Passed start words name keep dropped i → Passed start words name keep dropped r
  passed_others zero i e S P = let same : i ≡ i + 0 = omega arith in rw (e, ← same) P
  passed_others {words = words} (suc k) i e S P =
      let few = S.within in
      let h : i < places = omega arith in
      passed_others k (i + 1) (omega arith) (skip_rest (omega arith) S) (passed_free P h (by_absent words i h name (S.others i (omega arith) (omega arith))) refl)

  pub passed_skip : {words : List ℕ} {dropped : Bool} {i r : ℕ} → Skipping words 1 i name r → Passed start words name keep dropped i → Passed start words name keep dropped r
  passed_skip {i = i} {r = r} S P = let far = S.onward in passed_others (r - i) i (omega arith) S P
