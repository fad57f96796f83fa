-- An entry put behind the others. Assumes nothing.
use mathlib.Core.Path.{◌≡◌, refl, sym, ap, ◌∙◌}
use mathlib.Core.List.{List, [], ◌∷◌, ◌++◌}
use Prim.Native.Nat.{ℕ, zero, suc, ◌+◌, ◌*◌, ◌≤◌, ◌<◌, min}
use native.Mathlib.Omega.{arith}
use lib.ListN.{length, get_or, drop, set, length-set}
use lib.Seq.{get_or-drop, get_or-set_same, get_or-set_other}
use Rattle.name_entries.specs.NameEntries.{NameEntry, most_names, names_length, entry_at, entries_in, names_of, Appending}

-- ---- an entry behind the first n
-- n entries are their first words
in_front : (n : ℕ) (a b : List ℕ) → ((i : ℕ) → i < 3 * n → get_or a i 0 ≡ get_or b i 0) → entries_in n a ≡ entries_in n b
unfolding entries_in
in_front zero a b same = refl
in_front (suc n) a b same =
    rw (same 0 (omega arith), same 1 (omega arith), same 2 (omega arith), in_front n (drop 3 a) (drop 3 b) further)
  where
    further : (i : ℕ) → i < 3 * n → get_or (drop 3 a) i 0 ≡ get_or (drop 3 b) i 0
    further i h = get_or-drop 3 a i 0 ∙ same (3 + i) (omega arith) ∙ sym (get_or-drop 3 b i 0)

entry_drop : (k : ℕ) (words : List ℕ) (a : ℕ) → entry_at (drop k words) a ≡ entry_at words (k + a)
entry_drop k words a =
    let p : k + (a + 1) ≡ k + a + 1 = omega arith in
    let q : k + (a + 2) ≡ k + a + 2 = omega arith in
    rw (get_or-drop k words a 0, get_or-drop k words (a + 1) 0, get_or-drop k words (a + 2) 0, p, q)

behind : (n : ℕ) (words : List ℕ) → entries_in (suc n) words ≡ entries_in n words ++ entry_at words (3 * n) ∷ []
unfolding entries_in
behind zero words = refl
behind (suc n) words =
    let e : 3 + 3 * n ≡ 3 * suc n = omega arith in
    ap {B = List NameEntry} (λ ds. entry_at words 0 ∷ ds) (behind n (drop 3 words) ∙ rw (entry_drop 3 words (3 * n), e))

-- the words that are stored
abbrev stored : List ℕ → ℕ → ℕ → ℕ → ℕ → ℕ → List ℕ
stored words at pgn name mask n = set (set (set (set words at pgn) (at + 1) name) (at + 2) mask) 0 (n + 1)

module _ (words : List ℕ) (at pgn name mask n : ℕ) (one : 1 ≤ at) (inside : at + 3 ≤ length words) where
  abbrev first : List ℕ
  first = set words at pgn

  abbrev second : List ℕ
  second = set first (at + 1) name

  abbrev third : List ℕ
  third = set second (at + 2) mask

  before : (i : ℕ) → 1 ≤ i → i < at → get_or (stored words at pgn name mask n) i 0 ≡ get_or words i 0
  before i l h =
      get_or-set_other third 0 i (n + 1) 0 (λ e. omega (arith, e))
      ∙ get_or-set_other second (at + 2) i mask 0 (λ e. omega (arith, e))
      ∙ get_or-set_other first (at + 1) i name 0 (λ e. omega (arith, e))
      ∙ get_or-set_other words at i pgn 0 (λ e. omega (arith, e))

  the_count : get_or (stored words at pgn name mask n) 0 0 ≡ n + 1
  the_count = get_or-set_same third 0 (n + 1) 0 (simp length-set (omega arith))

  the_pgn : get_or (stored words at pgn name mask n) at 0 ≡ pgn
  the_pgn =
      get_or-set_other third 0 at (n + 1) 0 (λ e. omega (arith, e))
      ∙ get_or-set_other second (at + 2) at mask 0 (λ e. omega (arith, e))
      ∙ get_or-set_other first (at + 1) at name 0 (λ e. omega (arith, e))
      ∙ get_or-set_same words at pgn 0 (omega arith)

  the_name : get_or (stored words at pgn name mask n) (at + 1) 0 ≡ name
  the_name =
      get_or-set_other third 0 (at + 1) (n + 1) 0 (λ e. omega (arith, e))
      ∙ get_or-set_other second (at + 2) (at + 1) mask 0 (λ e. omega (arith, e))
      ∙ get_or-set_same first (at + 1) name 0 (simp length-set (omega arith))

  the_mask : get_or (stored words at pgn name mask n) (at + 2) 0 ≡ mask
  the_mask =
      get_or-set_other third 0 (at + 2) (n + 1) 0 (λ e. omega (arith, e))
      ∙ get_or-set_same second (at + 2) mask 0 (simp length-set (omega arith))

pub appended : (words : List ℕ) (n pgn name mask : ℕ) → n < most_names → length words ≡ names_length
    → Appending words (stored words (1 + 3 * n) pgn name mask n) n (record { pgn = pgn; name = name; mask = mask })
unfolding names_of
appended words n pgn name mask few long = record { names = names; long = simp length-set }
  where
    after : List ℕ
    after = stored words (1 + 3 * n) pgn name mask n

    front : entries_in n (drop 1 after) ≡ entries_in n (drop 1 words)
    front = in_front n (drop 1 after) (drop 1 words) (λ i h.
        get_or-drop 1 after i 0
        ∙ before words (1 + 3 * n) pgn name mask n (omega arith) (omega arith) (1 + i) (omega arith) (omega arith)
        ∙ sym (get_or-drop 1 words i 0))

    names : entries_in (min (get_or after 0 0) most_names) (drop 1 after)
        ≡ entries_in n (drop 1 words) ++ record { pgn = pgn; name = name; mask = mask } ∷ []
    names =
        let c : min (get_or after 0 0) most_names ≡ suc n =
        omega (arith, the_count words (1 + 3 * n) pgn name mask n (omega arith) (omega arith)) in
        rw c
        (behind n (drop 1 after)
        ∙ rw (
          front,
          entry_drop 1 after (3 * n),
          the_pgn words (1 + 3 * n) pgn name mask n (omega arith) (omega arith),
          the_name words (1 + 3 * n) pgn name mask n (omega arith) (omega arith),
          the_mask words (1 + 3 * n) pgn name mask n (omega arith) (omega arith),
        ))
