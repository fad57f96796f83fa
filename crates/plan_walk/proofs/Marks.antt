-- Marks: one that is set makes the unvisited fewer, leaves the others, and is gone when it is taken away. Assumes nothing.
use mathlib.Core.Path.{◌≡◌, sym, ap, ◌∙◌}
use mathlib.Core.Bool.{Bool, true, false, true≢false}
use mathlib.Core.List.{List, [], ◌∷◌}
use Prim.Native.Nat.{ℕ, zero, suc, ◌<◌}
use native.Mathlib.Nat.{not-suc-le-zero, le_of_suc-le-suc}
use native.Mathlib.Decide.{ℕ_discrete}
use native.Mathlib.Omega.{arith}
use lib.ListN.{length, get_or, set}
use lib.Seq.{get_or-set_same, get_or-set_other, set-set, set-get_or}
use Rattle.plan_walk.specs.Walk.{Unvisited, marked, unvisited}

pub fewer : (marks : List Bool) (i : ℕ) → i < length marks → Unvisited marks i → unvisited (marked marks i) < unvisited marks
unfolding unvisited
fewer [] i h u = absurd (not-suc-le-zero h)
fewer (false ∷ marks) zero h u = omega arith
fewer (true ∷ marks) zero h u = absurd (true≢false u)
fewer (false ∷ marks) (suc i) h u = omega (arith, fewer marks i (le_of_suc-le-suc h) u)
fewer (true ∷ marks) (suc i) h u = fewer marks i (le_of_suc-le-suc h) u

pub unmarked : (marks : List Bool) (i : ℕ) → Unvisited marks i → set (marked marks i) i false ≡ marks
unmarked marks i u = set-set marks i true false ∙ (rw u at (set-get_or marks i false))

-- what is unvisited beside a mark was unvisited, and is another place
pub beside : (marks : List Bool) (i j : ℕ) → i < length marks → Unvisited (marked marks i) j → Unvisited marks j × (j ≡ i → ⊥)
beside marks i j h u = elim (ℕ_discrete j i) [
  | yes e ↦ absurd (clash (ap (get_or (set marks i true)) e))
  | no ne ↦ (sym (get_or-set_other marks i j true false ne) ∙ u, ne)
]
  where
    clash : get_or (set marks i true) j ≡ get_or (set marks i true) i → ⊥
    clash p =
        true≢false (sym (get_or-set_same marks i true false h) ∙ sym (ap (λ (f : Bool → Bool). f false) p) ∙ u)

pub stays : (marks : List Bool) (i j : ℕ) → (j ≡ i → ⊥) → Unvisited marks j → Unvisited (marked marks i) j
stays marks i j ne u = get_or-set_other marks i j true false ne ∙ u

-- what the walk goes on with, against what it was given
pub falls_to : (marks₀ : List Bool) (i : ℕ) {marks : List Bool} {t : ℕ} → marks ≡ marked marks₀ i → i < length marks₀ → Unvisited marks₀ i → unvisited marks₀ ≡ t → unvisited marks < t
falls_to marks₀ i e h u m = rw (e, ← m) (fewer marks₀ i h u)
