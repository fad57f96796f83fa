-- A plan's answer in literals: from the contract of the plan, and what is in range on the lent words. Assumes nothing.
use mathlib.Core.Path.{◌≡◌, refl, sym, ◌∙◌}
use mathlib.Core.Bool.{Bool, true, false, true≢false}
use mathlib.Core.Logic.{◌↔◌, inl}
use mathlib.Core.List.{List, [], ◌∷◌}
use Prim.Native.Nat.{ℕ, ◌-◌, ◌^◌, ◌≤◌, ◌<◌}
use native.Mathlib.Nat.{zero-div}
use native.Mathlib.Decide.{ℕ_discrete}
use native.Mathlib.Omega.{arith}
use lib.ListN.{length}
use Rattle.unit.specs.Ports.{bit_at}
use Rattle.plan_shape.specs.Plan.{plan_of, in_range, Hears}
use Rattle.plan_shape.specs.Literals.{InPlan}
use Rattle.plan_shape.proofs.Literals.{literals}
use Rattle.std.specs.Prelude.{Result, Ok, Err}
use Rattle.checks.specs.declared.refusal.Refusal.{Refusal}
use Rattle.checks.specs.Refusals.{number_in}
use Rattle.plans.specs.Plans.{Planning}
use Rattle.deorasaeng.specs.PlanCalls.{answer_of, PlanCall}
use Rattle.c_demands.specs.Plans.{Asked, asked, PlanAnswer, PlanCalls}

-- no bit of 0 is set
no_bit : (k : ℕ) → bit_at 0 k ≡ false
unfolding bit_at
no_bit k = rw (zero-div (2 ^ k))

module _ (ports lists answer told : List ℕ) (segments units first pgn r : ℕ) where
  in_words : in_range segments (plan_of units ports lists) first pgn ≡ true → InPlan segments units first pgn ports lists
  in_words = (literals.range segments units first pgn ports lists).0

  of_words : InPlan segments units first pgn ports lists → in_range segments (plan_of units ports lists) first pgn ≡ true
  of_words = (literals.range segments units first pgn ports lists).1

  out_words : in_range segments (plan_of units ports lists) first pgn ≡ false → InPlan segments units first pgn ports lists → ⊥
  out_words e w = true≢false (sym (of_words w) ∙ e)

  not_in : (InPlan segments units first pgn ports lists → ⊥) → in_range segments (plan_of units ports lists) first pgn ≡ false
  not_in n = by (in_range segments (plan_of units ports lists) first pgn) refl
    where
      by : (b : Bool) → in_range segments (plan_of units ports lists) first pgn ≡ b → in_range segments (plan_of units ports lists) first pgn ≡ false
      by true e = absurd (n (in_words e))
      by false e = e

  -- the answer's word: what is heard, at least the first segment
  word_of : (planned : Result ℕ Refusal) → Planning segments (plan_of units ports lists) first pgn planned → number_in planned ≡ 0 → told ≡ answer_of planned answer
      → (word : ℕ)
      × ((told ≡ word ∷ []) × (word < 65536)
      × ((segment : ℕ) → 1 ≤ segment → segment ≤ 16 → (bit_at word (segment - 1) ≡ true) ↔ Hears (plan_of units ports lists) first pgn segment))
  word_of (Ok s) P z t = (s, (t, (P.heard z).small, (P.heard z).told))
  word_of (Err e) P z t =
      let w = in_words (P.answered.0 z).1.0 in
      absurd (true≢false (sym (((P.heard z).told first w.from_1 (omega (arith, w.of_plan, w.most_segments_lem))).1 (inl refl)) ∙ no_bit (first - 1)))

  left_alone : (planned : Result ℕ Refusal) → (number_in planned ≡ 0 → ⊥) → told ≡ answer_of planned answer → told ≡ answer
  left_alone (Ok s) n t = absurd (n refl)
  left_alone (Err e) n t = t

  one_word : (planned : Result ℕ Refusal) → Planning segments (plan_of units ports lists) first pgn planned → length answer ≡ 1 → r ≡ number_in planned → told ≡ answer_of planned answer
      → PlanAnswer ports lists segments units first pgn answer r told
  one_word planned P one e t = record {
    number2 = (λ z L. P.number2.0 (sym e ∙ z) (L.0, L.1), λ n. e ∙ P.number2.1 (λ L. n (L.0, L.1, one)));
    number28 = (
      λ z. let q = P.number28.0 (sym e ∙ z) in ((q.0.0, q.0.1, one), out_words q.1),
      λ q. e ∙ P.number28.1 ((q.0.0, q.0.1), not_in q.1),
    );
    number29 = (
      λ z. let q = P.number29.0 (sym e ∙ z) in ((q.0.0, q.0.1, one), (in_words q.1.0, q.1.1)),
      λ q. e ∙ P.number29.1 ((q.0.0, q.0.1), (of_words q.1.0, q.1.1)),
    );
    number0 = (
      λ z. let q = P.answered.0 (sym e ∙ z) in ((q.0.0, q.0.1, one), (in_words q.1.0, q.1.1)),
      λ q. e ∙ P.answered.1 ((q.0.0, q.0.1), (of_words q.1.0, q.1.1)),
    );
    heard = λ z. word_of planned P (sym e ∙ z) t;
    left = λ n. left_alone planned (λ z. n (e ∙ z)) t;
  }

  other_words : (length answer ≡ 1 → ⊥) → r ≡ 2 → told ≡ answer → PlanAnswer ports lists segments units first pgn answer r told
  other_words h e t = record {
    number2 = (λ z L. h L.2, λ n. e);
    number28 = (λ z. absurd (omega arith), λ q. absurd (h q.0.2));
    number29 = (λ z. absurd (omega arith), λ q. absurd (h q.0.2));
    number0 = (λ z. absurd (omega arith), λ q. absurd (h q.0.2));
    heard = λ z. absurd (omega arith);
    left = λ n. t;
  }

  by_contract : PlanCall ports lists segments units first pgn answer told r → PlanAnswer ports lists segments units first pgn answer r told
  by_contract (planned, (P, T)) =
      elim (ℕ_discrete (length answer) 1) [
        | yes one ↦ one_word planned P one (T.told one).0 (T.told one).1
        | no h ↦ other_words h (T.wrong h).0 (T.wrong h).1
      ]

answers : {ports lists answer told : List ℕ} {segments units first pgn r : ℕ} → Asked ports lists segments units first pgn answer r told
    → PlanAnswer ports lists segments units first pgn answer r told
answers (asked κs p p' l l' a a' segments units first pgn r f) = by_contract p.now l.now a.now a'.now segments units first pgn r (f tt)

pub plan_calls : PlanCalls
plan_calls = record { answers = answers }
