-- The search for an entry that matches, among entries that are chunks of three words. Assumes nothing.
use mathlib.Core.Path.{◌≡◌, refl, sym, ap}
use mathlib.Core.Bool.{Bool, true, false, cond, not, ◌||◌}
use Rattle.std.specs.Prelude.{None, Some, map, position}
use Rattle.std.specs.List.{list_any, position_or_len}
use Rattle.std.specs.Simd.{first_chunks}
use mathlib.Core.List.{List, [], ◌∷◌}
use Prim.Native.Nat.{ℕ, zero, suc, ◌+◌, ◌≤◌, ◌<◌, min}
use native.Mathlib.Omega.{arith}
use borrow.Author.Tests.{ltb-true, ltb-false}
use lib.Dec.{ltb}
use lib.ListN.{length, get_or, take, drop}
use lib.Seq.{get_or-take}
use Rattle.name_entries.specs.NameEntries.{NameEntry, matches, is_same, is_there, entry_at, entries_in, any_match, place_in, names_of, most_names, Searching}

-- ---- the first n chunks of three words are n entries
front : (words : List ℕ) (i : ℕ) → i < 3 → get_or (take 3 words) i 0 ≡ get_or words i 0
front words i h = get_or-take 3 words i 0 h

pub chunks_are : (n k : ℕ) (words : List ℕ) → n ≤ k → map (λ entry. entry_at entry 0) (take n (first_chunks 3 k words)) ≡ entries_in n words
unfolding entries_in
chunks_are zero k words h = refl
chunks_are (suc n) zero words h = absurd (omega arith)
chunks_are (suc n) (suc k) words h =
    rw (front words 0 (omega arith), front words 1 (omega arith), front words 2 (omega arith))
    (ap {B = List NameEntry} (λ es. record { pgn = get_or words 0 0; name = get_or words 1 0; mask = get_or words 2 0 } ∷ es) (chunks_are n k (drop 3 words) (omega arith)))

-- ---- one that is the same
pub there : (e : NameEntry) (es : List (List ℕ)) → list_any (λ entry. is_same e (entry_at entry 0)) es ≡ is_there e (map (λ entry. entry_at entry 0) es)
unfolding is_there
there e [] = refl
there e (d ∷ ds) = ap (λ b. is_same e (entry_at d 0) || b) (there e ds)

-- ---- a place, or none
module _ {A : Type 0} (test : A → Bool) (xs : List A) where
  some_at : {i : ℕ} → position test xs ≡ Some i → (i ≡ position_or_len test xs) × (i < length xs)
  some_at {i} e = go (ltb (position_or_len test xs) (length xs)) refl e
    where
      go : (b : Bool) → ltb (position_or_len test xs) (length xs) ≡ b → cond b (Some (position_or_len test xs)) None ≡ Some i → (i ≡ position_or_len test xs) × (i < length xs)
      go true h e = let q : position_or_len test xs ≡ i = cc in (sym q, omega (arith, q, ltb-true (position_or_len test xs) (length xs) h))
      go false h e = let z : ◌≡◌ {A = ℕ} 0 1 = cc in absurd (omega arith)

  none_at : position test xs ≡ None → length xs ≤ position_or_len test xs
  none_at e = go (ltb (position_or_len test xs) (length xs)) refl e
    where
      go : (b : Bool) → ltb (position_or_len test xs) (length xs) ≡ b → cond b (Some (position_or_len test xs)) None ≡ None → length xs ≤ position_or_len test xs
      go true h e = let z : ◌≡◌ {A = ℕ} 0 1 = cc in absurd (omega arith)
      go false h e = omega (arith, ltb-false (position_or_len test xs) (length xs) h)

-- ---- what the place says
module _ (pgn name : ℕ) where
  abbrev test : List ℕ → Bool
  test entry = matches pgn name (entry_at entry 0)

  abbrev meant : List (List ℕ) → List NameEntry
  meant es = map (λ entry. entry_at entry 0) es

  place_match : (es : List (List ℕ)) → position_or_len test es < length es → (any_match pgn name (meant es) ≡ true) × (place_in pgn name (meant es) ≡ position_or_len test es + 1)
  unfolding any_match place_in
  place_match [] h = absurd (omega arith)
  place_match (e ∷ es) h = go (test e) h (place_match es)
    where
      go : (b : Bool) → cond (not b) (1 + position_or_len test es) 0 < suc (length es)
          → (position_or_len test es < length es → (any_match pgn name (meant es) ≡ true) × (place_in pgn name (meant es) ≡ position_or_len test es + 1))
          → ((b || any_match pgn name (meant es)) ≡ true) × (cond b 1 (suc (place_in pgn name (meant es))) ≡ cond (not b) (1 + position_or_len test es) 0 + 1)
      go true h ih = (refl, omega arith)
      go false h ih = let r = ih (omega arith) in (r.0, omega (arith, r.1))

  place_none : (es : List (List ℕ)) → length es ≤ position_or_len test es → (any_match pgn name (meant es) ≡ false) × (place_in pgn name (meant es) ≡ length es)
  unfolding any_match place_in
  place_none [] h = (refl, refl)
  place_none (e ∷ es) h = go (test e) h (place_none es)
    where
      go : (b : Bool) → suc (length es) ≤ cond (not b) (1 + position_or_len test es) 0
          → (length es ≤ position_or_len test es → (any_match pgn name (meant es) ≡ false) × (place_in pgn name (meant es) ≡ length es))
          → ((b || any_match pgn name (meant es)) ≡ false) × (cond b 1 (suc (place_in pgn name (meant es))) ≡ suc (length es))
      go true h ih = absurd (omega arith)
      go false h ih = let r = ih (omega arith) in (r.0, omega (arith, r.1))

length_in : (n : ℕ) (words : List ℕ) → length (entries_in n words) ≡ n
unfolding entries_in
length_in zero words = refl
length_in (suc n) words = ap suc (length_in n (drop 3 words))

module _ (words : List ℕ) {n : ℕ} (count : n ≡ min (get_or words 0 0) most_names) where
  pub as_many : length (names_of words) ≡ n
  unfolding names_of
  as_many = rw (← count) (length_in n (drop 1 words))

  pub names_are : entries_in n (drop 1 words) ≡ names_of words
  unfolding names_of
  names_are = rw count

  pub search_none : {pgn : ℕ} → Searching words pgn None false n
  search_none = record { answer = refl; count = sym as_many; small = omega (arith, count) }

  module _ {pgn name : ℕ} (es : List (List ℕ)) (are : map (λ entry. entry_at entry 0) es ≡ entries_in n (drop 1 words)) (long : length es ≡ n) where
    pub search_found : {i : ℕ} → position (λ entry. matches pgn name (entry_at entry 0)) es ≡ Some i → Searching words pgn (Some name) true (i + 1)
    search_found e =
        let s = some_at (test pgn name) es e in
        let r = rw (are, names_are) at (place_match pgn name es (omega (arith, s.0, s.1))) in
        record { answer = sym r.0; count = omega (arith, r.1, s.0); small = omega (arith, count, s.1, long) }

    pub search_past : position (λ entry. matches pgn name (entry_at entry 0)) es ≡ None → Searching words pgn (Some name) false n
    search_past e =
        let r = rw (are, names_are) at (place_none pgn name es (none_at (test pgn name) es e)) in
        record { answer = sym r.0; count = omega (arith, r.1, long); small = omega (arith, count) }
