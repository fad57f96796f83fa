-- No two pairs have one place, and none has the general counter's. Assumes nothing.
use mathlib.Core.Path.{◌≡◌, refl, sym, ap, ◌∙◌}
use mathlib.Core.Bool.{Bool, true, false, cond}
use Prim.Native.Nat.{ℕ, suc, ◌+◌, ◌-◌, ◌*◌, ◌≤◌, ◌<◌}
use native.Mathlib.Nat.{mul-suc, mul-le-mul_left}
use native.Mathlib.Omega.{arith}
use borrow.Author.Tests.{ltb-true, ltb-false}
use lib.Dec.{ltb}
use Rattle.unit.specs.Count.{pair_count}
use Rattle.unit.specs.Model.{pair_at}
use Rattle.unit.proofs.Count.{pair_below}

-- a pair's place among those from its port
step : (p q : ℕ) → ℕ
step p q = cond (ltb q p) q (q - 1)

step_below : {ports p q : ℕ} → p < ports → q < ports → (p ≡ q → ⊥) → step p q < ports - 1
unfolding step
step_below {ports} {p} {q} h k ne = go (ltb q p) refl
  where
    go : (b : Bool) → ltb q p ≡ b → cond b q (q - 1) < ports - 1
    go true e = omega (arith, ltb-true q p e)
    go false e = omega (arith, ltb-false q p e, ne)

step_same : (p q r : ℕ) → (p ≡ q → ⊥) → (p ≡ r → ⊥) → step p q ≡ step p r → q ≡ r
unfolding step
step_same p q r nq nr e = go (ltb q p) (ltb r p) refl refl e
  where
    go : (b c : Bool) → ltb q p ≡ b → ltb r p ≡ c → cond b q (q - 1) ≡ cond c r (r - 1) → q ≡ r
    go true true x y e = e
    go true false x y e = omega (arith, e, ltb-true q p x, ltb-false r p y, nr)
    go false true x y e = omega (arith, e, ltb-false q p x, ltb-true r p y, nq)
    go false false x y e = omega (arith, e, ltb-false q p x, ltb-false r p y, nq, nr)

row_same : (n p r k j : ℕ) → k < n → j < n → n * p + k ≡ n * r + j → p ≡ r
row_same n p r k j h l e = go (ltb p r) (ltb r p) refl refl
  where
    below : (a b : ℕ) → a < b → n * a + n ≤ n * b
    below a b z = let l : n * suc a ≤ n * b = mul-le-mul_left n z in omega (arith, l, mul-suc n a)

    go : (b c : Bool) → ltb p r ≡ b → ltb r p ≡ c → p ≡ r
    go true c x y = absurd (omega (arith, below p r (ltb-true p r x)))
    go false true x y = absurd (omega (arith, below r p (ltb-true r p y)))
    go false false x y = omega (arith, ltb-false p r x, ltb-false r p y)

module _ {ports p q : ℕ} (h : p < ports) (k : q < ports) (ne : p ≡ q → ⊥) where
  pub place_below : pair_at ports p q < pair_count ports
  unfolding step
  place_below = pair_below {ports = ports} {p = p} {k = step p q} h (step_below h k ne)

  -- two pairs from one port
  row_place : {s : ℕ} → (p ≡ s → ⊥) → pair_at ports p q ≡ pair_at ports p s → q ≡ s
  unfolding step
  row_place {s} ns e = step_same p q s ne ns (omega (arith, e))

  pub place_same : {r s : ℕ} → r < ports → s < ports → (r ≡ s → ⊥) → pair_at ports p q ≡ pair_at ports r s → (p ≡ r) × (q ≡ s)
  unfolding step
  place_same {r} {s} a b rs e =
      let row = row_same (ports - 1) p r (step p q) (step r s) (step_below h k ne) (step_below a b rs) e in
      (row, row_place (λ z. rs (sym row ∙ z)) (e ∙ ap (λ x. pair_at ports x s) (sym row)))
