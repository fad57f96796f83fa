-- What is heard after: one walk after the other, one more turn of a loop. Assumes nothing.
use mathlib.Core.Path.{◌≡◌}
use mathlib.Core.Logic.{◌⊎◌, inl, inr, ⊎_elim, ◌↔◌}
use Prim.Native.Nat.{ℕ, ◌+◌, ◌^◌, ◌≤◌, ◌<◌}
use native.Mathlib.Decide.{ℕ_discrete, dec_lt}
use native.Mathlib.Omega.{arith}
use lib.Bits.{bit_or}
use Rattle.plan_walk.specs.Walk.{Told}
use Rattle.plan_walk.proofs.Bits.{or_heard, one_heard}

-- ---- what holds of some number below n
abbrev pub Some : (ℕ → Type 0) → ℕ → Type 0
Some P n = (i : ℕ) × ((i < n) × P i)

pub some_more : {P : ℕ → Type 0} {n : ℕ} → (Some P n ⊎ P n) ↔ Some P (n + 1)
some_more {P} {n} = (⊎_elim (λ s. (s.0, (widen s.0 s.1.0, s.1.1))) (λ p. (n, (omega arith, p))), back)
  where
    widen : (i : ℕ) → i < n → i < n + 1
    widen i h = omega arith

    back : Some P (n + 1) → Some P n ⊎ P n
    back (i, (l, p)) = elim (ℕ_discrete n i) [
      | yes e ↦ inr (rw e p)
      | no ne ↦ inl (i, (omega arith, p))
    ]

pub some_same : {P : ℕ → Type 0} {n : ℕ} → (P n → ⊥) → Some P n ↔ Some P (n + 1)
some_same {P} {n} none = ((λ s. some_more.0 (inl s)), (λ s. ⊎_elim (λ x. x) (λ p. absurd (none p)) (some_more.1 s)))

-- where none is between two numbers
pub some_past : {P : ℕ → Type 0} {n r : ℕ} → n ≤ r → ((i : ℕ) → n ≤ i → i < r → P i → ⊥) → Some P n ↔ Some P r
some_past {P} {n} {r} h none = ((λ s. (s.0, (widen s.0 s.1.0, s.1.1))), back)
  where
    widen : (i : ℕ) → i < n → i < r
    widen i l = omega arith

    back : Some P r → Some P n
    back (i, (l, p)) = elim (dec_lt i n) [
      | yes m ↦ (i, (m, p))
      | no m ↦ absurd (none i (omega (arith, m)) l p)
    ]

-- ---- told
pub told_none : {heard : ℕ} {P : ℕ → Type 0} → ((t : ℕ) → P t → ⊥) → Told heard heard P
told_none none = record { at = λ t. (inl, ⊎_elim (λ x. x) (λ p. absurd (none t p))) }

pub told_mark : (heard s : ℕ) → Told heard (bit_or heard (2 ^ s)) (λ t. t ≡ s)
told_mark heard s = record {
  at = λ t. (
    (λ x. ⊎_elim inl (λ y. inr ((one_heard s t).0 y)) ((or_heard heard (2 ^ s) t).0 x)),
    (λ x. (or_heard heard (2 ^ s) t).1 (⊎_elim inl (λ e. inr ((one_heard s t).1 e)) x)),
  );
}

pub told_as : {before after : ℕ} {P Q : ℕ → Type 0} → ((t : ℕ) → P t ↔ Q t) → Told before after P → Told before after Q
told_as same T = record { at = λ t. ((λ x. ⊎_elim inl (λ p. inr ((same t).0 p)) ((T.at t).0 x)), ⊎_elim (λ x. (T.at t).1 (inl x)) (λ q. (T.at t).1 (inr ((same t).1 q)))) }

pub told_then : {before between after : ℕ} {P Q : ℕ → Type 0} → Told before between P → Told between after Q → Told before after (λ t. P t ⊎ Q t)
told_then T S = record {
  at = λ t. (
    (λ x. ⊎_elim (λ y. ⊎_elim inl (λ p. inr (inl p)) ((T.at t).0 y)) (λ q. inr (inr q)) ((S.at t).0 x)),
    ⊎_elim (λ x. (S.at t).1 (inl ((T.at t).1 (inl x)))) (⊎_elim (λ p. (S.at t).1 (inl ((T.at t).1 (inr p)))) (λ q. (S.at t).1 (inr q))),
  );
}
