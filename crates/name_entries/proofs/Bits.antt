-- The bits that a mask asks for. Assumes nothing.
use mathlib.Core.Path.{◌≡◌, refl, ap, ◌∙◌}
use mathlib.Core.Bool.{◌&&◌, ◌||◌}
use Prim.Native.Nat.{ℕ, zero, suc, ◌+◌, ◌*◌, ◌/◌, ◌%◌, ◌^◌, ◌<◌, min}
use native.Mathlib.Decide.{ℕ_discrete}
use native.Mathlib.Nat.{pow-suc}
use native.Mathlib.Omega.{arith}
use borrow.Author.Tests.{eq-eqb, ne_eqb}
use lib.Bits.{bit_and, bit_xor, differ, and_step, xor_step, and_zero_r}
use lib.Dec.{eqb}
use Rattle.name_entries.specs.NameEntries.{agree_in, agrees}

low : (m a b : ℕ) → m < 2 → a < 2 → b < 2 → eqb (min (differ a b) m) 0 ≡ (eqb m 0 || eqb a b)
low zero zero zero h i j = refl
low zero zero (suc zero) h i j = refl
low zero zero (suc (suc b)) h i j = absurd (omega arith)
low zero (suc zero) zero h i j = refl
low zero (suc zero) (suc zero) h i j = refl
low zero (suc zero) (suc (suc b)) h i j = absurd (omega arith)
low zero (suc (suc a)) b h i j = absurd (omega arith)
low (suc zero) zero zero h i j = refl
low (suc zero) zero (suc zero) h i j = refl
low (suc zero) zero (suc (suc b)) h i j = absurd (omega arith)
low (suc zero) (suc zero) zero h i j = refl
low (suc zero) (suc zero) (suc zero) h i j = refl
low (suc zero) (suc zero) (suc (suc b)) h i j = absurd (omega arith)
low (suc zero) (suc (suc a)) b h i j = absurd (omega arith)
low (suc (suc m)) a b h i j = absurd (omega arith)

small : (a b : ℕ) → a < 2 → b < 2 → differ a b < 2
small zero b i j = j
small (suc zero) zero i j = i
small (suc zero) (suc zero) i j = omega arith
small (suc zero) (suc (suc b)) i j = absurd (omega arith)
small (suc (suc a)) b i j = absurd (omega arith)

both_zero : (u v : ℕ) → eqb (u * 2 + v) 0 ≡ (eqb v 0 && eqb u 0)
both_zero u v = elim (ℕ_discrete v 0) [
  | yes e ↦ elim (ℕ_discrete u 0) [
    | yes d ↦ let z : u * 2 + v ≡ 0 = omega (arith, e, d) in rw (eq-eqb v 0 e, eq-eqb u 0 d, eq-eqb (u * 2 + v) 0 z)
    | no d ↦ rw (eq-eqb v 0 e, ne_eqb u 0 d, ne_eqb (u * 2 + v) 0 (λ z. d (omega (arith, z))))
  ]
  | no e ↦ rw (ne_eqb v 0 e, ne_eqb (u * 2 + v) 0 (λ z. e (omega (arith, z))))
]

halves : (a b : ℕ) → (bit_xor a b / 2 ≡ bit_xor (a / 2) (b / 2)) × (bit_xor a b % 2 ≡ differ (a % 2) (b % 2))
halves a b =
    let d = small (a % 2) (b % 2) (omega arith) (omega arith) in
    (omega (arith, xor_step a b, d), omega (arith, xor_step a b, d))

law : (k mask a b : ℕ) → mask < 2 ^ k → eqb (bit_and (bit_xor a b) mask) 0 ≡ agree_in k mask a b
unfolding agree_in
law zero mask a b h = let z : mask ≡ 0 = omega arith in rw (z, and_zero_r (bit_xor a b))
law (suc k) mask a b h =
    let s = halves a b in
    let m : mask / 2 < 2 ^ k = omega (arith, h, pow-suc 2 k) in
    ap (λ (n : ℕ). eqb n 0) (and_step (bit_xor a b) mask)
    ∙ both_zero (bit_and (bit_xor a b / 2) (mask / 2)) (min (bit_xor a b % 2) (mask % 2))
    ∙ rw (s.0, s.1, low (mask % 2) (a % 2) (b % 2) (omega arith) (omega arith) (omega arith), law k (mask / 2) (a / 2) (b / 2) m)

pub agree_is : (mask a b : ℕ) → mask < 2 ^ 64 → eqb (bit_and (bit_xor a b) mask) 0 ≡ agrees mask a b
unfolding agrees
agree_is mask a b h = law 64 mask a b h
