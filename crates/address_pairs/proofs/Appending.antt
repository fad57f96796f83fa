-- A pair put behind the others. Assumes nothing.
use mathlib.Core.Path.{◌≡◌, refl, sym, ap, ◌∙◌}
use mathlib.Core.List.{List, [], ◌∷◌, ◌++◌}
use Prim.Native.Nat.{ℕ, zero, suc, ◌+◌, ◌*◌, ◌≤◌, ◌<◌, min}
use native.Mathlib.Nat.{mod-eq_of_lt}
use native.Mathlib.Omega.{arith}
use lib.ListN.{length, get_or, drop, set, length-set}
use lib.Seq.{get_or-drop, get_or-set_same, get_or-set_other}
use Rattle.address_pairs.specs.AddressPairs.{AddressPair, pair_of, address_count, most_pairs, pairs_length, pair_at, pairs_in, pairs_of}
use Rattle.address_pairs.specs.Calls.{Appending}
use Rattle.address_pairs.proofs.Looking.{pair_drop}

-- n pairs are their first words
in_front : (n : ℕ) (a b : List ℕ) → ((i : ℕ) → i < 2 * n → get_or a i 0 ≡ get_or b i 0) → pairs_in n a ≡ pairs_in n b
unfolding pairs_in
in_front zero a b same = refl
in_front (suc n) a b same = rw (same 0 (omega arith), same 1 (omega arith), in_front n (drop 2 a) (drop 2 b) further)
  where
    further : (i : ℕ) → i < 2 * n → get_or (drop 2 a) i 0 ≡ get_or (drop 2 b) i 0
    further i h = get_or-drop 2 a i 0 ∙ same (2 + i) (omega arith) ∙ sym (get_or-drop 2 b i 0)

behind : (n : ℕ) (words : List ℕ) → pairs_in (suc n) words ≡ pairs_in n words ++ pair_at words (2 * n) ∷ []
unfolding pairs_in
behind zero words = refl
behind (suc n) words =
    let e : 2 + 2 * n ≡ 2 * suc n = omega arith in
    ap {B = List AddressPair} (λ ds. pair_at words 0 ∷ ds) (behind n (drop 2 words) ∙ rw (pair_drop 2 words (2 * n), e))

-- the words that are stored
abbrev stored : List ℕ → ℕ → ℕ → ℕ → ℕ → List ℕ
stored words at outer inner n = set (set (set words at outer) (at + 1) inner) 0 (n + 1)

module _ (words : List ℕ) (at outer inner n : ℕ) (one : 1 ≤ at) (inside : at + 2 ≤ length words) where
  abbrev first : List ℕ
  first = set words at outer

  abbrev second : List ℕ
  second = set first (at + 1) inner

  before : (i : ℕ) → 1 ≤ i → i < at → get_or (stored words at outer inner n) i 0 ≡ get_or words i 0
  before i l h =
      get_or-set_other second 0 i (n + 1) 0 (λ e. omega (arith, e))
      ∙ get_or-set_other first (at + 1) i inner 0 (λ e. omega (arith, e))
      ∙ get_or-set_other words at i outer 0 (λ e. omega (arith, e))

  the_count : get_or (stored words at outer inner n) 0 0 ≡ n + 1
  the_count = get_or-set_same second 0 (n + 1) 0 (simp length-set (omega arith))

  the_outer : get_or (stored words at outer inner n) at 0 ≡ outer
  the_outer =
      get_or-set_other second 0 at (n + 1) 0 (λ e. omega (arith, e))
      ∙ get_or-set_other first (at + 1) at inner 0 (λ e. omega (arith, e))
      ∙ get_or-set_same words at outer 0 (omega arith)

  the_inner : get_or (stored words at outer inner n) (at + 1) 0 ≡ inner
  the_inner =
      get_or-set_other second 0 (at + 1) (n + 1) 0 (λ e. omega (arith, e))
      ∙ get_or-set_same first (at + 1) inner 0 (simp length-set (omega arith))

module _ (words : List ℕ) (outer inner : ℕ) {n : ℕ} (count : n ≡ min (get_or words 0 0) most_pairs) (few : n < most_pairs) (long : length words ≡ pairs_length)
    (out : outer < address_count) (inn : inner < address_count) where
  abbrev after : List ℕ
  after = stored words (1 + 2 * n) outer inner n

  front : pairs_in n (drop 1 after) ≡ pairs_in n (drop 1 words)
  front = in_front n (drop 1 after) (drop 1 words) (λ i h.
      get_or-drop 1 after i 0
      ∙ before words (1 + 2 * n) outer inner n (omega arith) (omega arith) (1 + i) (omega arith) (omega arith)
      ∙ sym (get_or-drop 1 words i 0))

  last : pair_at after (1 + 2 * n) ≡ pair_of outer inner
  last = rw (
    the_outer words (1 + 2 * n) outer inner n (omega arith) (omega arith),
    the_inner words (1 + 2 * n) outer inner n (omega arith) (omega arith),
    mod-eq_of_lt out,
    mod-eq_of_lt inn,
  )

  all : pairs_of after ≡ pairs_of words ++ pair_of outer inner ∷ []
  unfolding pairs_of
  all =
      let c : min (get_or after 0 0) most_pairs ≡ suc n = omega (arith, the_count words (1 + 2 * n) outer inner n (omega arith) (omega arith)) in
      rw (c, ← count) (behind n (drop 1 after) ∙ rw (front, pair_drop 1 after (2 * n), last))

  pub appended : Appending words after outer inner
  appended = record { pairs = all; long = simp length-set }
