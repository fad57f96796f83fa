-- Each way that a plan is answered makes the contract. Assumes nothing.
use mathlib.Core.Path.{◌≡◌, refl, sym, ◌∙◌}
use mathlib.Core.Bool.{true, false, true≢false}
use Prim.Native.Nat.{ℕ, ◌*◌, ◌≤◌, ◌<◌}
use native.Mathlib.Omega.{arith}
use lib.ListN.{get_or}
use Rattle.plan_shape.specs.Plan.{Plan, Hearing, in_range, Ringed, most_segments, port_count}
use Rattle.plan_shape.proofs.Ranges.{Ranged}
use Rattle.plan_walk.specs.Walk.{Bounded}
use Rattle.std.specs.Prelude.{Ok, Err}
use Rattle.checks.specs.declared.refusal.Refusal.TheVariants.{OutsidePlan, TwoPaths}
use Rattle.plans.specs.Plans.{Lent, Planning}

module _ {segments : ℕ} {plan : Plan} {first pgn : ℕ} where
  module _ (lent : Lent plan) where
    pub refused_28 : in_range segments plan first pgn ≡ false → Planning segments plan first pgn (Err OutsidePlan)
    refused_28 out = record {
      number2 = ((λ e. absurd (omega arith)), (λ w. absurd (w lent)));
      number28 = ((λ e. (lent, out)), (λ p. refl));
      number29 = ((λ e. absurd (omega arith)), (λ p. absurd (true≢false (sym p.1.0 ∙ out))));
      answered = ((λ e. absurd (omega arith)), (λ p. absurd (true≢false (sym p.1.0 ∙ out))));
      heard = λ e. absurd (omega arith);
    }

    module _ (good : in_range segments plan first pgn ≡ true) where
      pub refused_29 : Ringed plan → Planning segments plan first pgn (Err TwoPaths)
      refused_29 ring = record {
        number2 = ((λ e. absurd (omega arith)), (λ w. absurd (w lent)));
        number28 = ((λ e. absurd (omega arith)), (λ p. absurd (true≢false (sym good ∙ p.1))));
        number29 = ((λ e. (lent, (good, ring))), (λ p. refl));
        answered = ((λ e. absurd (omega arith)), (λ p. absurd (p.1.1 ring)));
        heard = λ e. absurd (omega arith);
      }

      pub answer : {r : ℕ} → (Ringed plan → ⊥) → Hearing plan first pgn r → Planning segments plan first pgn (Ok r)
      answer none H = record {
        number2 = ((λ e. absurd (omega arith)), (λ w. absurd (w lent)));
        number28 = ((λ e. absurd (omega arith)), (λ p. absurd (true≢false (sym good ∙ p.1))));
        number29 = ((λ e. absurd (omega arith)), (λ p. absurd (none p.1.1)));
        answered = ((λ e. (lent, (good, none))), (λ p. refl));
        heard = λ e. H;
      }

-- a plan in range may be walked
module _ {segments : ℕ} {plan : Plan} {first : ℕ} (R : Ranged segments plan first) where
  small : (i : ℕ) → i < port_count * plan.units → get_or plan.ports i 0 ≤ most_segments
  small i h = omega (arith, R.ports i h, R.segmented)

  pub walkable : Lent plan → Bounded plan
  walkable lent = record { ports = lent.0; lists = lent.1; few = R.few; in_range = small }

  pub first_small : (first ≡ 0 → ⊥) × (first ≤ most_segments)
  first_small = ((λ e. none R.least e), omega (arith, R.most, R.segmented))
    where
      none : 1 ≤ first → first ≡ 0 → ⊥
      none h e = omega arith
