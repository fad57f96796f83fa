-- A search through a list in order: a test holds of an element, and how many are tested up to the first. Assumes nothing.
use mathlib.Core.Path.{◌≡◌, refl, sym, ap, ◌∙◌}
use mathlib.Core.Bool.{Bool, true, false, cond, ◌||◌, false≢true}
use mathlib.Core.List.{List, [], ◌∷◌}
use Prim.Native.Nat.{ℕ, zero, suc, ◌+◌, ◌<◌}
use native.Mathlib.Nat.{not-suc-le-zero, le_of_suc-le-suc}
use native.Mathlib.Omega.{arith}
use lib.Dec.{eqb}
use lib.ListN.{length, get_or}
use Rattle.entries.specs.Entries.{listed}
use Rattle.name_entries.specs.NameEntries.{NameEntry, matches, any_match, place_in}
use Rattle.demand_2.specs.Matching.{Among, UpTo, first, all}

module _ {A : Type 0} (test : A → Bool) where
  abbrev pub any : List A → Bool
  any [] = false
  any (y ∷ ys) = test y || any ys

  abbrev pub up_to : List A → ℕ
  up_to [] = 0
  up_to (y ∷ ys) = cond (test y) 1 (suc (up_to ys))

  -- an element of which it holds, the first one
  pub record First (l : List A) (d : A) : Type 0 where
    pub at : ℕ
    pub inside : at < length l
    pub holds : test (get_or l at d) ≡ true
    pub before : (j : ℕ) → j < at → test (get_or l j d) ≡ false
    pub counted : up_to l ≡ at + 1

  abbrev pub NoneOf : List A → A → Type 0
  NoneOf l d = (j : ℕ) → j < length l → test (get_or l j d) ≡ false

  pub first_is : (l : List A) (d : A) → any l ≡ true → First l d
  first_is [] d h = absurd (false≢true h)
  first_is (y ∷ ys) d h = go (test y) refl h (λ g. first_is ys d g)
    where
      go : (b : Bool) → test y ≡ b → (b || any ys) ≡ true → (any ys ≡ true → First ys d) → First (y ∷ ys) d
      go true e h ih = record { at = 0; inside = omega arith; holds = e; before = λ j l. absurd (omega arith); counted = rw e }
      go false e h ih =
          let F = ih h in
          record {
            at = suc F.at;
            inside = omega (arith, F.inside);
            holds = F.holds;
            before = λ j. elim j as (λ (k : ℕ). k < suc F.at → test (get_or (y ∷ ys) k d) ≡ false) [
              | zero ↦ λ l. e
              | suc i ↦ λ l. F.before i (le_of_suc-le-suc l)
            ];
            counted = rw e (omega (arith, F.counted));
          }

  pub none_is : (l : List A) (d : A) → any l ≡ false → NoneOf l d × (up_to l ≡ length l)
  none_is [] d h = ((λ j l. absurd (not-suc-le-zero l)), refl)
  none_is (y ∷ ys) d h = go (test y) refl h (λ g. none_is ys d g)
    where
      go : (b : Bool) → test y ≡ b → (b || any ys) ≡ false → (any ys ≡ false → NoneOf ys d × (up_to ys ≡ length ys)) → NoneOf (y ∷ ys) d × (up_to (y ∷ ys) ≡ suc (length ys))
      go true e h ih = absurd (false≢true (sym h))
      go false e h ih =
          let N = ih h in (
            (λ j. elim j as (λ (k : ℕ). k < suc (length ys) → test (get_or (y ∷ ys) k d) ≡ false) [
              | zero ↦ λ l. e
              | suc i ↦ λ l. N.0 i (le_of_suc-le-suc l)
            ]),
            rw e (ap suc N.1),
          )

-- the searches of the rules are such ones
pub listed_any : (x : ℕ) (l : List ℕ) → listed x l ≡ any (λ y. eqb y x) l
unfolding listed
listed_any x [] = refl
listed_any x (y ∷ ys) = rw (listed_any x ys)

pub match_any : (pgn name : ℕ) (es : List NameEntry) → any_match pgn name es ≡ any (matches pgn name) es
unfolding any_match
match_any pgn name [] = refl
match_any pgn name (e ∷ es) = rw (match_any pgn name es)

pub place_in_up_to : (pgn name : ℕ) (es : List NameEntry) → place_in pgn name es ≡ up_to (matches pgn name) es
unfolding place_in
place_in_up_to pgn name [] = refl
place_in_up_to pgn name (e ∷ es) = rw (place_in_up_to pgn name es)

-- what is sought is what the test holds of
module _ {A : Type 0} (test : A → Bool) (l : List A) (d : A) (sought : ℕ → Type 0) (yes : (k : ℕ) → test (get_or l k d) ≡ true → sought k) (no : (k : ℕ) → sought k → test (get_or l k d) ≡ true) where
  pub counted : (b : Bool) → any test l ≡ b → UpTo (length l) sought (up_to test l)
  counted true e =
      let F = first_is test l d e in
      rw F.counted (first F.inside (yes F.at F.holds) (λ j h s. false≢true (sym (F.before j h) ∙ no j s)))
  counted false e =
      let N = none_is test l d e in
      rw N.1 (all (λ j h s. false≢true (sym (N.0 j h) ∙ no j s)))

  pub somewhere : any test l ≡ true → Among (length l) sought
  somewhere e = let F = first_is test l d e in (F.at, F.inside, yes F.at F.holds)

  pub nowhere : any test l ≡ false → Among (length l) sought → ⊥
  nowhere e s = false≢true (sym ((none_is test l d e).0 s.0 s.1) ∙ no s.0 s.2)
