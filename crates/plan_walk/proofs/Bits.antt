-- A number as a set of segments: its bits, with one more, and those of its half. Assumes nothing.
use mathlib.Core.Path.{◌≡◌, sym, ap, ◌∙◌}
use mathlib.Core.Logic.{◌⊎◌, inl, inr, ⊎_elim, ◌↔◌}
use Prim.Native.Nat.{ℕ, suc, ◌+◌, ◌-◌, ◌*◌, ◌/◌, ◌%◌, ◌^◌, ◌≤◌, ◌<◌}
use native.Mathlib.Nat.{one-mul, mod-eq_of_lt, div-eq_of_lt, div_self, mul-div_cancel_left, div-div-eq-div-mul, pow-succ', zero-div}
use native.Mathlib.Decide.{ℕ_discrete, dec_lt}
use native.Mathlib.Numerals.{add-one}
use native.Mathlib.Omega.{arith}
use borrow.Author.Tests.{eq-eqb, eqb-true}
use lib.Bits.{bit_or, or_step, or_shr, or_lt}
use lib.Pow.{pow-add, pow-lt, pow_pos}
use Rattle.unit.specs.Ports.{bit_at}
use Rattle.plan_shape.specs.Plan.{most_segments}
use Rattle.plan_walk.specs.Walk.{Heard}

heard_is : (x q : ℕ) → Heard x q → x / 2 ^ q % 2 ≡ 1
unfolding bit_at
heard_is x q h = eqb-true (x / 2 ^ q % 2) 1 h

is_heard : (x q : ℕ) → x / 2 ^ q % 2 ≡ 1 → Heard x q
unfolding bit_at
is_heard x q e = eq-eqb (x / 2 ^ q % 2) 1 e

-- ---- either of two
pub or_heard : (a b q : ℕ) → Heard (bit_or a b) q ↔ (Heard a q ⊎ Heard b q)
or_heard a b q = (to, ⊎_elim (λ h. from (inl (heard_is a q h))) (λ h. from (inr (heard_is b q h))))
  where
    step : bit_or a b / 2 ^ q % 2 ≡ bit_or (a / 2 ^ q) (b / 2 ^ q) % 2
    step = rw (or_shr a b q)

    to : Heard (bit_or a b) q → Heard a q ⊎ Heard b q
    to h = elim (ℕ_discrete (a / 2 ^ q % 2) 1) [
      | yes e ↦ inl (is_heard a q e)
      | no ne ↦ inr (is_heard b q (omega (arith, or_step (a / 2 ^ q) (b / 2 ^ q), sym step ∙ heard_is (bit_or a b) q h)))
    ]

    from : (a / 2 ^ q % 2 ≡ 1) ⊎ (b / 2 ^ q % 2 ≡ 1) → Heard (bit_or a b) q
    from (inl e) = is_heard (bit_or a b) q (step ∙ omega (arith, or_step (a / 2 ^ q) (b / 2 ^ q)))
    from (inr e) = is_heard (bit_or a b) q (step ∙ omega (arith, or_step (a / 2 ^ q) (b / 2 ^ q)))

-- ---- one alone
pub one_heard : (s q : ℕ) → Heard (2 ^ s) q ↔ (q ≡ s)
one_heard s q = (to, (λ e. rw e (is_heard (2 ^ s) s (ap (λ (x : ℕ). x % 2) (div_self (pow_pos s))))))
  where
    below : (k : ℕ) → s ≡ q + suc k → 2 ^ s / 2 ^ q % 2 ≡ 1 → ⊥
    below k e h =
        let p : 2 ^ s ≡ 2 ^ q * (2 * 2 ^ k) = rw e (pow-add 2 q (suc k) ∙ rw (pow-succ' 2 k)) in
        let d : 2 ^ s / 2 ^ q ≡ 2 * 2 ^ k = rw p (mul-div_cancel_left (2 * 2 ^ k) (pow_pos q)) in
        omega arith

    above : s < q → 2 ^ s / 2 ^ q % 2 ≡ 1 → ⊥
    above l h = let d : 2 ^ s / 2 ^ q ≡ 0 = div-eq_of_lt (pow-lt l) in omega arith

    to : Heard (2 ^ s) q → q ≡ s
    to h = elim (ℕ_discrete q s) [
      | yes e ↦ e
      | no ne ↦ elim (dec_lt s q) [
        | yes l ↦ absurd (above l (heard_is (2 ^ s) q h))
        | no m ↦ absurd (below (s - q - 1) (omega (arith, m)) (heard_is (2 ^ s) q h))
      ]
    ]

-- ---- none
pub none_heard : (q : ℕ) → Heard 0 q → ⊥
none_heard q h = let d : 0 / 2 ^ q ≡ 0 = zero-div (2 ^ q) in omega (arith, heard_is 0 q h)

-- ---- the half
pub half_bit : (x q : ℕ) → bit_at (x / 2) q ≡ bit_at x (q + 1)
unfolding bit_at
half_bit x q = rw (div-div-eq-div-mul x 2 (2 ^ q), add-one q, pow-succ' 2 q)

-- ---- a segment's bit, as it is shifted, and how large a set is
pub shifted : {s : ℕ} → s ≤ most_segments → 1 * 2 ^ s % 2 ^ 64 ≡ 2 ^ s
shifted {s} h = rw (one-mul (2 ^ s)) (mod-eq_of_lt (pow-lt {j = 64} (omega arith)))

pub or_small : {x s : ℕ} → x < 2 ^ (most_segments + 1) → s ≤ most_segments → bit_or x (2 ^ s) < 2 ^ (most_segments + 1)
or_small {x} {s} h l = or_lt (most_segments + 1) x (2 ^ s) h (pow-lt {j = most_segments + 1} (omega arith))
