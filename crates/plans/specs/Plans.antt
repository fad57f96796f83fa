-- docs/RULES.md, "Plans": what a plan is answered with. Assumes nothing.
use Rattle.std.specs.Prelude.{ℕ, ◌≡◌, true, false, ◌↔◌, length, Result, Ok, Err}
use Rattle.plan_shape.specs.Plan.{Plan, Hearing, in_range, Ringed, ports_length, lists_length}
use Rattle.checks.specs.declared.refusal.Refusal.{Refusal}
use Rattle.checks.specs.Refusals.{number_in}

-- the segments that hear, bit s - 1 for segment s; none where the plan is refused
abbrev pub heard_of : Result ℕ Refusal → ℕ
heard_of (Ok segments) = segments
heard_of (Err refusal) = 0

-- what is lent has its published length
abbrev pub Lent : Plan → Type 0
Lent plan = (length plan.ports ≡ ports_length) × (length plan.lists ≡ lists_length)

-- each number exactly then, 2 before 28 and "28 first"; where none is given, the segments that hear
pub record Planning (segments : ℕ) (plan : Plan) (first pgn : ℕ) (r : Result ℕ Refusal) : Type 0 where
  pub number2 : (number_in r ≡ 2) ↔ (Lent plan → ⊥)
  pub number28 : (number_in r ≡ 28) ↔ (Lent plan × (in_range segments plan first pgn ≡ false))
  pub number29 : (number_in r ≡ 29) ↔ (Lent plan × ((in_range segments plan first pgn ≡ true) × Ringed plan))
  pub answered : (number_in r ≡ 0) ↔ (Lent plan × ((in_range segments plan first pgn ≡ true) × (Ringed plan → ⊥)))
  pub heard : number_in r ≡ 0 → Hearing plan first pgn (heard_of r)
