-- The number that a list of checks gives has what all their numbers have. Assumes nothing.
use mathlib.Core.Path.{◌≡◌, refl}
use mathlib.Core.Bool.{Bool, true, false, cond, ◌&&◌}
use mathlib.Core.List.{List, [], ◌∷◌}
use Prim.Native.Nat.{ℕ}
use Rattle.checks.specs.Checks.{Check, first}
use Rattle.checks.proofs.Tests.{both}

-- whether a test holds of every number of a table
abbrev pub all_numbers : (ℕ → Bool) → List Check → Bool
all_numbers test [] = true
all_numbers test (c ∷ cs) = test c.number && all_numbers test cs

pub first_in : (test : ℕ → Bool) (cs : List Check) → all_numbers test cs ≡ true → (first cs ≡ 0 → ⊥) → test (first cs) ≡ true
first_in test [] h n = absurd (n refl)
first_in test (c ∷ cs) h n = go (λ m. first_in test cs (both (test c.number) (all_numbers test cs) h).1 m) c.applies n
  where
    go : ((first cs ≡ 0 → ⊥) → test (first cs) ≡ true) → (b : Bool) → (cond b c.number (first cs) ≡ 0 → ⊥) → test (cond b c.number (first cs)) ≡ true
    go later true n = (both (test c.number) (all_numbers test cs) h).0
    go later false n = later n
