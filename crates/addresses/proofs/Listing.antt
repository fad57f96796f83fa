-- The address list, as a loop writes it: the addresses passed are listed, and what follows them in the buffer is as it was. Assumes nothing.
use Rattle.std.specs.Prelude.{None}
use mathlib.Core.Path.{◌≡◌, refl, sym, ◌∙◌}
use mathlib.Core.Bool.{Bool, true, false, and-false}
use mathlib.Core.List.{List, [], ◌∷◌, ◌++◌, append-nil, append_assoc}
use Prim.Native.Nat.{ℕ, zero, suc, ◌+◌, ◌-◌, ◌*◌, ◌≤◌, ◌<◌}
use native.Mathlib.Omega.{arith}
use native.Mathlib.Numerals.{add-one}
use borrow.Author.Tests.{eq-eqb, ne_eqb}
use lib.ListN.{length, get_or, set, drop, length-append, length-set}
use lib.Seq.{drop-cons, set_at}
use Rattle.addresses.specs.Table.{places, table_of, held_on, below, is_listed, addresses_on}
use Rattle.addresses.specs.Calls.{Listing}
use Rattle.addresses.specs.Steps.{Skipping}
use Rattle.addresses.proofs.Words.{on_absent}
use Rattle.addresses.proofs.Skipping.{skip_rest}

-- ---- the loop that writes it: the addresses passed are listed, and what follows them in the buffer is as it was
pub record Written (words : List ℕ) (port except : ℕ) (before after : List ℕ) (n i : ℕ) : Type 0 where
  pub within : i ≤ places
  pub few : n ≤ i
  pub long : length after ≡ length before
  pub list : after ≡ below (is_listed port except (table_of words)) i ++ drop n before
  pub count : n ≡ length (below (is_listed port except (table_of words)) i)

-- one more number, by the test of it
below_no : (test : ℕ → Bool) (n : ℕ) → test n ≡ false → below test (n + 1) ≡ below test n
unfolding below
below_no test n f = rw (add-one n, f) (append-nil (below test n))

below_yes : (test : ℕ → Bool) (n : ℕ) → test n ≡ true → below test (n + 1) ≡ below test n ++ (n ∷ [])
unfolding below
below_yes test n t = rw (add-one n, t)

-- a store just past the list makes it one longer
store_past : (list before : List ℕ) (n x : ℕ) → n ≡ length list → n < length before → set (list ++ drop n before) n x ≡ (list ++ (x ∷ [])) ++ drop (n + 1) before
store_past list before n x e h =
    rw (add-one n, drop-cons before n 0 h, append_assoc list (x ∷ []) (drop (suc n) before))
    (set_at list (get_or before n 0) (drop (suc n) before) x n (sym e))

module _ {words : List ℕ} {port except : ℕ} {before : List ℕ} where
  pub written_start : Written words port except before before 0 0
  unfolding below
  written_start = record { within = omega arith; few = omega arith; long = refl; list = refl; count = refl }

  pub written_done : {after : List ℕ} {n i : ℕ} → Written words port except before after n i → places ≤ i → Listing words port except before after n
  unfolding addresses_on
  written_done {after} {n} {i} W h =
      let e : i ≡ places = omega arith in
      record { written = rw e at W.list; answer = rw e at W.count; small = omega arith }

  module _ {after : List ℕ} {n i : ℕ} (W : Written words port except before after n i) (h : i < places) where
    passed : is_listed port except (table_of words) i ≡ false → Written words port except before after n (i + 1)
    passed f = record {
      within = omega arith;
      few = omega arith;
      long = W.long;
      list = rw (below_no (is_listed port except (table_of words)) i f) W.list;
      count = rw (below_no (is_listed port except (table_of words)) i f) W.count;
    }

    pub written_except : i ≡ except → Written words port except before after n (i + 1)
    unfolding is_listed
    written_except e = passed (rw (eq-eqb i except e) (and-false (held_on port (get_or (table_of words) i None))))

    module _ {r : Bool} (asked : r ≡ held_on port (get_or (table_of words) i None)) where
      pub written_not : r ≡ false → Written words port except before after n (i + 1)
      unfolding is_listed
      written_not f = passed (rw (← asked, f))

      pub written_one : r ≡ true → (i ≡ except → ⊥) → places ≤ length before → Written words port except before (set after n i) (n + 1) (i + 1)
      unfolding is_listed
      written_one t ne room =
          let test = is_listed port except (table_of words) in
          let y : test i ≡ true = rw (← asked, t, ne_eqb i except ne) in
          let next : below test (i + 1) ≡ below test i ++ (i ∷ []) = below_yes test i y in
          record {
            within = omega arith;
            few = omega arith;
            long = length-set after n i ∙ W.long;
            list = rw (W.list, next) (store_past (below test i) before n i W.count (omega arith));
            count = rw (next, length-append (below test i) (i ∷ [])) (omega (arith, W.count));
          }

  -- places whose port is another are passed over
  skipped : (k : ℕ) {after : List ℕ} {n i r : ℕ} → r ≡ i + k → Skipping words 0 i port r → Written words port except before after n i → Written words port except before after n r
  skipped zero {i = i} {r} e S W = let same : r ≡ i = omega arith in rw same W
  skipped (suc k) {i = i} {r} e S W =
      let h : i < places = omega (arith, S.within) in
      let at : 2 * i + 0 ≡ 2 * i = omega arith in
      skipped k (omega arith) (skip_rest (omega arith) S)
      (written_not W h (on_absent words i h port (rw at at (S.others i (omega arith) (omega arith)))) refl)

  pub written_others : {after : List ℕ} {n i r : ℕ} → Skipping words 0 i port r → Written words port except before after n i → Written words port except before after n r
  written_others {i = i} {r} S W = skipped (r - i) (omega (arith, S.onward)) S W
