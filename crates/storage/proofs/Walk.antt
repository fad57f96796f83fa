-- A walk over a list: after i elements the answer v is a function of those that are left. Assumes nothing.
use mathlib.Core.Path.{◌≡◌, ap, ◌∙◌}
use mathlib.Core.List.{List, [], ◌∷◌}
use Prim.Native.Nat.{ℕ, ◌+◌, ◌≤◌, ◌<◌, zero-le}
use native.Mathlib.Numerals.{add-one}
use native.Mathlib.Omega.{arith}
use lib.ListN.{length, get_or, drop, drop_of_length-le}
use lib.Seq.{drop-cons}

pub record Left {A : Type 0} (v : A) (f : List ℕ → A) (xs : List ℕ) (i : ℕ) : Type 0 where
  pub inside : i ≤ length xs
  pub value : v ≡ f (drop i xs)

pub left_all : {A : Type 0} {v : A} {f : List ℕ → A} {xs : List ℕ} → v ≡ f xs → Left v f xs 0
left_all e = record { inside = zero-le; value = e }

module _ {A : Type 0} {v : A} {f : List ℕ → A} {xs : List ℕ} {i : ℕ} (L : Left v f xs i) where
  -- the next element, and those after it
  pub left_next : i < length xs → v ≡ f (get_or xs i 0 ∷ drop (i + 1) xs)
  left_next h = L.value ∙ ap f (rw (add-one i) (drop-cons xs i 0 h))

  pub left_on : (k : ℕ) {g : List ℕ → A} → i + k ≤ length xs → f (drop i xs) ≡ g (drop (i + k) xs) → Left v g xs (i + k)
  left_on k h e = record { inside = h; value = L.value ∙ e }

  pub left_one : {g : List ℕ → A} → i < length xs → f (get_or xs i 0 ∷ drop (i + 1) xs) ≡ g (drop (i + 1) xs) → Left v g xs (i + 1)
  left_one h e = record { inside = omega arith; value = left_next h ∙ e }

  pub left_none : length xs ≤ i → v ≡ f []
  left_none h = L.value ∙ ap f (drop_of_length-le xs {i = i} h)
