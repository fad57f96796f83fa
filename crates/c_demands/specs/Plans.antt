-- `deorasaeng_plan` by its contract alone, in the literals of docs/RULES.md, "Plans": the lent lengths, 28 on the lent words, and the answer's one word.
-- `plan_calls` of proofs/Plans.antt proves it. Assumes nothing.
use Rattle.std.specs.Prelude.{◌≡◌, true, ◌↔◌, List, [], ◌∷◌, ℕ, ◌-◌, ◌≤◌, ◌<◌, length}
use contract.Lifetimes.{Lfts}
use Rattle.std.specs.Borrow.{Bor, MutBor}
use Rattle.unit.specs.Ports.{bit_at}
use Rattle.plan_shape.specs.Plan.{plan_of, Hears, Ringed}
use Rattle.plan_shape.specs.Literals.{InPlan}
use Rattle.deorasaeng.proofs.deorasaeng_plan.Reads as plan

pub data Asked : (ports lists : List ℕ) (segments units first pgn : ℕ) (answer : List ℕ) (r : ℕ) (told : List ℕ) → Type 0 where
  asked : (κs : Lfts 3) (p p' l l' : Bor (List ℕ)) (a a' : MutBor (List ℕ)) (segments units first pgn r : ℕ)
      → (plan.Pre κs (p, (l, (segments, (units, (first, (pgn, (a, tt)))))))
      → plan.Post κs (p, (l, (segments, (units, (first, (pgn, (a, tt))))))) r (p', (l', (segments, (units, (first, (pgn, (a', tt))))))))
      → Asked p.now l.now segments units first pgn a.now r a'.now

-- eight words for each of 16 units, 34 for each of 56 pairs of each of 16 units, and one
abbrev pub Lent : List ℕ → List ℕ → List ℕ → Type 0
Lent ports lists answer = (length ports ≡ 128) × (length lists ≡ 30464) × (length answer ≡ 1)

pub record PlanAnswer (ports lists : List ℕ) (segments units first pgn : ℕ) (answer : List ℕ) (r : ℕ) (told : List ℕ) : Type 0 where
  -- each number exactly then, 2 before 28 and "28 first"
  pub number2 : (r ≡ 2) ↔ (Lent ports lists answer → ⊥)
  pub number28 : (r ≡ 28) ↔ (Lent ports lists answer × (InPlan segments units first pgn ports lists → ⊥))
  pub number29 : (r ≡ 29) ↔ (Lent ports lists answer × (InPlan segments units first pgn ports lists × Ringed (plan_of units ports lists)))
  pub number0 : (r ≡ 0) ↔ (Lent ports lists answer × (InPlan segments units first pgn ports lists × (Ringed (plan_of units ports lists) → ⊥)))
  -- "bit s - 1 for segment s that hears"; a refusal leaves the word
  pub heard : r ≡ 0 → (word : ℕ)
      × ((told ≡ word ∷ []) × (word < 65536)
      × ((segment : ℕ) → 1 ≤ segment → segment ≤ 16 → (bit_at word (segment - 1) ≡ true) ↔ Hears (plan_of units ports lists) first pgn segment))
  pub left : (r ≡ 0 → ⊥) → told ≡ answer

pub record PlanCalls : Type 0 where
  pub answers : {ports lists answer told : List ℕ} {segments units first pgn r : ℕ} → Asked ports lists segments units first pgn answer r told
      → PlanAnswer ports lists segments units first pgn answer r told
