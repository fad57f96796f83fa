-- An answer as the caller gets it, by the way that the code went. Assumes nothing.
use mathlib.Core.Path.{◌≡◌, refl}
use mathlib.Core.List.{List, [], ◌∷◌}
use Prim.Native.Nat.{ℕ}
use native.Mathlib.Omega.{arith}
use lib.ListN.{length, set}
use Rattle.std.specs.Prelude.{Result, Ok, Err}
use Rattle.checks.specs.declared.refusal.Refusal.{Refusal}
use Rattle.checks.specs.Refusals.{number}
use Rattle.deorasaeng.specs.PlanCalls.{Telling}

-- a list of one element, stored to
one_set : (xs : List ℕ) (v : ℕ) → length xs ≡ 1 → set xs 0 v ≡ v ∷ []
one_set [] v h = absurd (omega arith)
one_set (x ∷ []) v h = refl
one_set (x ∷ y ∷ xs) v h = absurd (omega arith)

pub tell_wrong : {planned : Result ℕ Refusal} {before : List ℕ} → (length before ≡ 1 → ⊥) → Telling planned before before 2
tell_wrong ne = record { told = λ h. absurd (ne h); wrong = λ _. (refl, refl) }

pub tell_heard : {planned : Result ℕ Refusal} {before : List ℕ} (segments : ℕ) → planned ≡ Ok segments → length before ≡ 1 → Telling planned before (set before 0 segments) 0
tell_heard {before = before} segments e h = record { told = λ _. rw e (refl, one_set before segments h); wrong = λ ne. absurd (ne h) }

pub tell_refused : {planned : Result ℕ Refusal} {before : List ℕ} {refusal : Refusal} → planned ≡ Err refusal → length before ≡ 1 → Telling planned before before (number refusal)
tell_refused e h = record { told = λ _. rw e (refl, refl); wrong = λ ne. absurd (ne h) }
