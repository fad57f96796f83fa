-- The search: where x first stands, in fours that are passed over and behind them, and whether it is listed. By induction on the list. Assumes nothing.
use mathlib.Core.Path.{◌≡◌, refl, sym, ap, ◌∙◌}
use mathlib.Core.Bool.{Bool, true, false, cond, not, ◌||◌}
use mathlib.Core.List.{List, [], ◌∷◌}
use Prim.Native.Nat.{ℕ, zero, suc, ◌+◌, ◌*◌, ◌/◌, ◌≤◌, ◌<◌, zero-le}
use native.Mathlib.Nat.{not-suc-le-zero, le_of_suc-le-suc}
use native.Mathlib.Omega.{arith}
use borrow.Author.Tests.{ltb-true, ltb-false, lt-ltb, le-ltb}
use lib.Dec.{eqb, ltb}
use lib.ListN.{length, take, drop, length-drop}
use lib.Seq.{drop-drop, length-take-le}
use Rattle.std.specs.Prelude.{Option, None, Some, position, is_some, unwrap_or}
use Rattle.std.specs.List.{list_any, position_or_len}
use Rattle.std.specs.Simd.{first_chunks}
use Rattle.entries.specs.Entries.{listed}
use Rattle.pgn_list.specs.Steps.{index_of, Finding}

-- ---- a place, or none
module _ {A : Type 0} (test : A → Bool) where
  few : (xs : List A) → position_or_len test xs ≤ length xs
  few [] = zero-le
  few (x ∷ xs) = go (test x) (few xs)
    where
      go : (b : Bool) {m n : ℕ} → m ≤ n → cond (not b) (1 + m) 0 ≤ suc n
      go true h = zero-le
      go false h = omega arith

  pub some_at : (xs : List A) {i : ℕ} → position test xs ≡ Some i → (i ≡ position_or_len test xs) × (i < length xs)
  some_at xs {i} e = go (ltb (position_or_len test xs) (length xs)) refl e
    where
      go : (b : Bool) → ltb (position_or_len test xs) (length xs) ≡ b → cond b (Some (position_or_len test xs)) None ≡ Some i → (i ≡ position_or_len test xs) × (i < length xs)
      go true h e = let q : position_or_len test xs ≡ i = cc in (sym q, omega (arith, q, ltb-true (position_or_len test xs) (length xs) h))
      go false h e = let z : ◌≡◌ {A = ℕ} 0 1 = cc in absurd (omega arith)

  pub none_at : (xs : List A) → position test xs ≡ None → length xs ≤ position_or_len test xs
  none_at xs e = go (ltb (position_or_len test xs) (length xs)) refl e
    where
      go : (b : Bool) → ltb (position_or_len test xs) (length xs) ≡ b → cond b (Some (position_or_len test xs)) None ≡ None → length xs ≤ position_or_len test xs
      go true h e = let z : ◌≡◌ {A = ℕ} 0 1 = cc in absurd (omega arith)
      go false h e = omega (arith, ltb-false (position_or_len test xs) (length xs) h)

  pub at_some : (xs : List A) {i : ℕ} → i ≡ position_or_len test xs → i < length xs → Some i ≡ position test xs
  at_some xs {i} e h = rw (← e, lt-ltb i (length xs) h)

  pub at_none : (xs : List A) → length xs ≤ position_or_len test xs → None ≡ position test xs
  at_none xs h = rw (le-ltb (position_or_len test xs) (length xs) h)

  pub or_all : (xs : List A) → unwrap_or (position test xs) (length xs) ≡ position_or_len test xs
  or_all xs = go (ltb (position_or_len test xs) (length xs)) refl
    where
      go : (b : Bool) → ltb (position_or_len test xs) (length xs) ≡ b → unwrap_or (cond b (Some (position_or_len test xs)) None) (length xs) ≡ position_or_len test xs
      go true h = refl
      go false h = omega (arith, few xs, ltb-false (position_or_len test xs) (length xs) h)

-- ---- fours that do not have x
abbrev place : ℕ → List ℕ → ℕ
place x list = position_or_len (λ y. eqb y x) list

abbrev pub fours : ℕ → List ℕ → ℕ
fours x list = position_or_len (λ four. list_any (λ y. eqb y x) four) (first_chunks 4 (length list / 4) list)

chunks : (k : ℕ) (list : List ℕ) → length (first_chunks 4 k list) ≡ k
chunks zero list = refl
chunks (suc k) list = ap suc (chunks k (drop 4 list))

pub fours_room : (x : ℕ) (list : List ℕ) → 4 * fours x list ≤ length list
fours_room x list = omega (arith, few (λ four. list_any (λ y. eqb y x) four) (first_chunks 4 (length list / 4) list), chunks (length list / 4) list)

four_more : (x : ℕ) (a b c d : Bool) (whole rest : List ℕ) (k : ℕ) → place x whole ≡ cond (not a) (1 + cond (not b) (1 + cond (not c) (1 + cond (not d) (1 + place x rest) 0) 0) 0) 0 → drop 4 whole ≡ rest
    → place x rest ≡ 4 * k + place x (drop (4 * k) rest)
    → place x whole ≡ 4 * cond (not (a || (b || (c || (d || false))))) (1 + k) 0 + place x (drop (4 * cond (not (a || (b || (c || (d || false))))) (1 + k) 0) whole)
four_more x true b c d whole rest k h e ih = omega arith
four_more x false true c d whole rest k h e ih = omega arith
four_more x false false true d whole rest k h e ih = omega arith
four_more x false false false true whole rest k h e ih = omega arith
four_more x false false false false whole rest k h e ih =
    let q : 4 * (1 + k) ≡ 4 + 4 * k = omega arith in
    rw (q, ← (drop-drop (4 * k) 4 whole), e) (omega (arith, h, ih))

pub fours_passed : (x : ℕ) (list : List ℕ) → place x list ≡ 4 * fours x list + place x (drop (4 * fours x list) list)
fours_passed x [] = refl
fours_passed x (a ∷ []) = omega arith
fours_passed x (a ∷ b ∷ []) = omega arith
fours_passed x (a ∷ b ∷ c ∷ []) = omega arith
fours_passed x (a ∷ b ∷ c ∷ d ∷ rest) =
    let e : length (a ∷ b ∷ c ∷ d ∷ rest) / 4 ≡ suc (length rest / 4) = omega arith in
    rw e (four_more x (eqb a x) (eqb b x) (eqb c x) (eqb d x) (a ∷ b ∷ c ∷ d ∷ rest) rest (fours x rest) refl refl (fours_passed x rest))

module _ (x : ℕ) (list : List ℕ) {p : ℕ} (passed : p ≡ 4 * fours x list) where
  behind : place x list ≡ p + place x (drop p list)
  behind = rw passed (fours_passed x list)

  pub found_behind : {i : ℕ} → position (λ y. eqb y x) (drop p list) ≡ Some i → Some (p + i) ≡ position (λ y. eqb y x) list
  found_behind {i} e =
      let s = some_at (λ y. eqb y x) (drop p list) e in
      at_some (λ y. eqb y x) list {i = p + i} (omega (arith, behind, s.0)) (omega (arith, s.1, length-drop p list))

  pub none_behind : position (λ y. eqb y x) (drop p list) ≡ None → None ≡ position (λ y. eqb y x) list
  none_behind e =
      at_none (λ y. eqb y x) list (omega (arith, behind, none_at (λ y. eqb y x) (drop p list) e, length-drop p list))

-- ---- what the place says
index_is : (x : ℕ) (es : List ℕ) → index_of x es ≡ place x es
unfolding index_of
index_is x [] = refl
index_is x (y ∷ ys) = go (eqb y x) (index_is x ys)
  where
    go : (b : Bool) {m n : ℕ} → m ≡ n → cond b 0 (suc m) ≡ cond (not b) (1 + n) 0
    go true e = refl
    go false e = omega arith

index_listed : (x : ℕ) (es : List ℕ) → index_of x es < length es → listed x es ≡ true
unfolding index_of listed
index_listed x [] h = absurd (not-suc-le-zero h)
index_listed x (y ∷ ys) h = go (eqb y x) h (index_listed x ys)
  where
    go : (b : Bool) → cond b 0 (suc (index_of x ys)) < suc (length ys) → (index_of x ys < length ys → listed x ys ≡ true) → (b || listed x ys) ≡ true
    go true h ih = refl
    go false h ih = ih (le_of_suc-le-suc h)

index_absent : (x : ℕ) (es : List ℕ) → length es ≤ index_of x es → listed x es ≡ false
unfolding index_of listed
index_absent x [] h = refl
index_absent x (y ∷ ys) h = go (eqb y x) h (index_absent x ys)
  where
    go : (b : Bool) → suc (length ys) ≤ cond b 0 (suc (index_of x ys)) → (length ys ≤ index_of x ys → listed x ys ≡ false) → (b || listed x ys) ≡ false
    go true h ih = absurd (not-suc-le-zero h)
    go false h ih = ih (le_of_suc-le-suc h)

module _ (x : ℕ) (es : List ℕ) where
  pub absent : position (λ y. eqb y x) es ≡ None → listed x es ≡ false
  absent e = index_absent x es (omega (arith, index_is x es, none_at (λ y. eqb y x) es e))

  pub present : {i : ℕ} → position (λ y. eqb y x) es ≡ Some i → listed x es ≡ true
  present e = let s = some_at (λ y. eqb y x) es e in index_listed x es (omega (arith, index_is x es, s.0, s.1))

  pub found_says : is_some (position (λ y. eqb y x) es) ≡ listed x es
  found_says = go (position (λ y. eqb y x) es) refl
    where
      go : (o : Option ℕ) → position (λ y. eqb y x) es ≡ o → is_some o ≡ listed x es
      go None e = sym (absent e)
      go (Some i) e = sym (present e)

-- where a search in the first n begins to take out
module _ {list : List ℕ} {n x : ℕ} (fits : n ≤ length list) where
  pub found_first : {i : ℕ} → position (λ y. eqb y x) (take n list) ≡ Some i → Finding list n x i
  found_first e =
      let s = some_at (λ y. eqb y x) (take n list) e in
      record { index = s.0 ∙ sym (index_is x (take n list)); inside = omega (arith, s.1, length-take-le n list fits) }

  pub found_or : Finding list n x (unwrap_or (position (λ y. eqb y x) (take n list)) n)
  found_or = go n (length-take-le n list fits)
    where
      go : (m : ℕ) → length (take n list) ≡ m → Finding list n x (unwrap_or (position (λ y. eqb y x) (take n list)) m)
      go m long =
          let at : unwrap_or (position (λ y. eqb y x) (take n list)) m ≡ place x (take n list) = rw (← long) (or_all (λ y. eqb y x) (take n list)) in
          record {
            index = at ∙ sym (index_is x (take n list));
            inside = omega (arith, at, few (λ y. eqb y x) (take n list), length-take-le n list fits);
          }
