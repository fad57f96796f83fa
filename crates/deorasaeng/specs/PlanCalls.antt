-- The two calls on a plan as C has them: the number, and in the word that the caller lends the segments that hear. Assumes nothing.
use Rattle.std.specs.Prelude.{ℕ, ◌≡◌, List, [], ◌∷◌, Result, Ok, Err, length}
use Rattle.checks.specs.declared.refusal.Refusal.{Refusal}
use Rattle.checks.specs.Refusals.{number_in}
use Rattle.plan_shape.specs.Plan.{plan_of}
use Rattle.plans.specs.Plans.{Planning}
use Rattle.plan_links.specs.declared.Link.{Link}
use Rattle.plan_links.specs.Links.{LinkPlanning}

-- the answer's word, which a refusal leaves as it was
abbrev pub answer_of : Result ℕ Refusal → List ℕ → List ℕ
answer_of (Ok segments) before = segments ∷ []
answer_of (Err refusal) before = before

-- an answer as the caller gets it: 2 where what was lent for it has not its one word
pub record Telling (planned : Result ℕ Refusal) (before after : List ℕ) (r : ℕ) : Type 0 where
  pub told : length before ≡ 1 → (r ≡ number_in planned) × (after ≡ answer_of planned before)
  pub wrong : (length before ≡ 1 → ⊥) → (r ≡ 2) × (after ≡ before)

abbrev pub PlanCall : List ℕ → List ℕ → ℕ → ℕ → ℕ → ℕ → List ℕ → List ℕ → ℕ → Type 0
PlanCall ports lists segments units first pgn before after r = (planned : Result ℕ Refusal) × (Planning segments (plan_of units ports lists) first pgn planned × Telling planned before after r)

abbrev pub LinksCall : List Link → List ℕ → ℕ → ℕ → ℕ → ℕ → List ℕ → List ℕ → ℕ → Type 0
LinksCall links lists segments units first pgn before after r = (planned : Result ℕ Refusal) × (LinkPlanning segments units links lists first pgn planned × Telling planned before after r)
