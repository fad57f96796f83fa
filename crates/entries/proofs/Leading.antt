-- The elements before the first for which a test fails: the test holds of each, and fails of the next if there is one. By induction on the list. Assumes nothing.
use mathlib.Core.Path.{◌≡◌, refl, sym, ◌∙◌}
use mathlib.Core.Bool.{Bool, true, false, cond, ◌&&◌, true≢false}
use mathlib.Core.List.{List, [], ◌∷◌}
use Prim.Native.Nat.{ℕ, zero, suc, ◌≤◌, ◌<◌}
use native.Mathlib.Nat.{not-suc-le-zero}
use native.Mathlib.Decide.{dec_lt}
use native.Mathlib.Omega.{arith}
use lib.ListN.{length, get_or}
use Rattle.entries.specs.Entries.{every, leading}

module _ (test : ℕ → Bool) where
  pub leading_few : (xs : List ℕ) → leading test xs ≤ length xs
  unfolding leading
  leading_few [] = omega arith
  leading_few (x ∷ xs) = go (test x) (leading_few xs)
    where
      go : (b : Bool) → leading test xs ≤ length xs → cond b (suc (leading test xs)) 0 ≤ suc (length xs)
      go true ih = omega arith
      go false ih = omega arith

  pub leading_all : (xs : List ℕ) → length xs ≡ leading test xs → every test xs ≡ true
  unfolding leading every
  leading_all [] e = refl
  leading_all (x ∷ xs) e = go (test x) e (leading_all xs)
    where
      go : (b : Bool) → suc (length xs) ≡ cond b (suc (leading test xs)) 0 → (length xs ≡ leading test xs → every test xs ≡ true) → b && every test xs ≡ true
      go true e ih = ih (omega arith)
      go false e ih = absurd (omega arith)

  pub leading_some : (xs : List ℕ) → leading test xs < length xs → every test xs ≡ false
  unfolding leading every
  leading_some [] h = absurd (not-suc-le-zero h)
  leading_some (x ∷ xs) h = go (test x) h (leading_some xs)
    where
      go : (b : Bool) → cond b (suc (leading test xs)) 0 < suc (length xs) → (leading test xs < length xs → every test xs ≡ false) → b && every test xs ≡ false
      go true h ih = ih (omega arith)
      go false h ih = refl

  -- where it fails of one, the first such is one of them
  pub leading_short : (xs : List ℕ) → every test xs ≡ false → leading test xs < length xs
  leading_short xs e =
      elim (dec_lt (leading test xs) (length xs)) [
        | yes h ↦ h
        | no n ↦ absurd (true≢false (sym (leading_all xs (omega (arith, leading_few xs))) ∙ e))
      ]

  -- where it holds of all, none is the first such
  pub leading_every : (xs : List ℕ) → every test xs ≡ true → length xs ≤ leading test xs
  leading_every xs e =
      elim (dec_lt (leading test xs) (length xs)) [
        | yes h ↦ absurd (true≢false (sym e ∙ leading_some xs h))
        | no n ↦ omega arith
      ]

  pub leading_holds : (xs : List ℕ) (j : ℕ) → j < leading test xs → test (get_or xs j 0) ≡ true
  unfolding leading
  leading_holds [] j h = absurd (not-suc-le-zero h)
  leading_holds (x ∷ xs) j h = go (test x) refl j h (leading_holds xs)
    where
      go : (b : Bool) → test x ≡ b → (j : ℕ) → j < cond b (suc (leading test xs)) 0 → ((i : ℕ) → i < leading test xs → test (get_or xs i 0) ≡ true) → test (get_or (x ∷ xs) j 0) ≡ true
      go true e zero h ih = e
      go true e (suc j) h ih = ih j (omega arith)
      go false e j h ih = absurd (not-suc-le-zero h)

  pub leading_fails : (xs : List ℕ) → leading test xs < length xs → test (get_or xs (leading test xs) 0) ≡ false
  unfolding leading
  leading_fails [] h = absurd (not-suc-le-zero h)
  leading_fails (x ∷ xs) h = go (test x) refl h (leading_fails xs)
    where
      go : (b : Bool) → test x ≡ b → cond b (suc (leading test xs)) 0 < suc (length xs) → (leading test xs < length xs → test (get_or xs (leading test xs) 0) ≡ false) → test (get_or (x ∷ xs) (cond b (suc (leading test xs)) 0) 0) ≡ false
      go true e h ih = ih (omega arith)
      go false e h ih = e

  -- and of every one, where it holds of all
  pub every_at : (xs : List ℕ) (j : ℕ) → every test xs ≡ true → j < length xs → test (get_or xs j 0) ≡ true
  every_at xs j e h =
      leading_holds xs j
      (elim (dec_lt (leading test xs) (length xs)) [
        | yes l ↦ absurd (true≢false (sym e ∙ leading_some xs l))
        | no n ↦ omega arith
      ])
