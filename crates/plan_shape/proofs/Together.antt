-- Numbers that are judged together: their bits in one number and the sum of their spare bytes tell whether each of them is a PGN. Assumes nothing.
use mathlib.Core.Path.{◌≡◌, refl, sym, ◌∙◌}
use mathlib.Core.Bool.{Bool, true, false, ◌&&◌, ◌||◌}
use mathlib.Core.List.{List}
use Prim.Native.Nat.{ℕ, ◌+◌, ◌*◌, ◌/◌, ◌%◌, ◌^◌, ◌≤◌, ◌<◌}
use native.Mathlib.Decide.{ℕ_discrete, dec_lt}
use native.Mathlib.Omega.{arith}
use borrow.Author.Tests.{lt-ltb, le-ltb, eq-eqb, ne_eqb, le-leb, lt-leb}
use lib.Bits.{bit_or, or_lt, or_add_and, and_le_l, and_le_r}
use lib.ListN.{length, get_or}
use lib.Dec.{ltb, leb, eqb}
use Rattle.storage.proofs.Walk.{Left, left_all, left_one, left_none}
use Rattle.identifier.specs.Identifier.{is_pgn}
use Rattle.entries.specs.Entries.{every}

-- nothing above 18 bits, and no spare byte
unfoldable pub fine : ℕ → ℕ → Bool
fine bits spare = ltb bits (2 ^ 18) && eqb spare 0

-- the low byte is not asked for, or 0
abbrev pub low_good : ℕ → Bool
low_good n = leb 240 (n / 256 % 256) || eqb (n % 256) 0

or_narrow : (a b : ℕ) → ltb (bit_or a b) (2 ^ 18) ≡ (ltb a (2 ^ 18) && ltb b (2 ^ 18))
or_narrow a b = elim (dec_lt (bit_or a b) (2 ^ 18)) [
  | yes l ↦
      let p : a < 2 ^ 18 = omega (arith, or_add_and a b, and_le_r a b, l) in
      let q : b < 2 ^ 18 = omega (arith, or_add_and a b, and_le_l a b, l) in
      rw (lt-ltb (bit_or a b) (2 ^ 18) l, lt-ltb a (2 ^ 18) p, lt-ltb b (2 ^ 18) q)
  | no w ↦ rw (le-ltb (bit_or a b) (2 ^ 18) (omega (arith, w))) (sym (wide w))
]
  where
    wide : (bit_or a b < 2 ^ 18 → ⊥) → (ltb a (2 ^ 18) && ltb b (2 ^ 18)) ≡ false
    wide w = elim (dec_lt a (2 ^ 18)) [
      | yes p ↦ elim (dec_lt b (2 ^ 18)) [
        | yes q ↦ absurd (w (or_lt 18 a b p q))
        | no q ↦ rw (lt-ltb a (2 ^ 18) p, le-ltb b (2 ^ 18) (omega (arith, q)))
      ]
      | no p ↦ rw (le-ltb a (2 ^ 18) (omega (arith, p)))
    ]

sum_zero : (a b : ℕ) → eqb (a + b) 0 ≡ (eqb a 0 && eqb b 0)
sum_zero a b = elim (ℕ_discrete a 0) [
  | yes e ↦ let s : a + b ≡ b = omega (arith, e) in rw (eq-eqb a 0 e, s)
  | no ne ↦ rw (ne_eqb a 0 ne, ne_eqb (a + b) 0 (λ z. ne (omega (arith, z))))
]

four : (a b c d : Bool) → ((a && b) && (c && d)) ≡ ((a && c) && (b && d))
four true true c d = refl
four true false true d = refl
four true false false d = refl
four false b c d = refl

together : (a b : Bool) (rest : Bool) → (a && (b && rest)) ≡ ((a && b) && rest)
together true b rest = refl
together false b rest = refl

and_true : (a : Bool) → (a && true) ≡ a
and_true true = refl
and_true false = refl

-- one number more
fine_more : (bits spare n s : ℕ) → eqb s 0 ≡ low_good n → (fine bits spare && is_pgn n) ≡ fine (bit_or bits n) (spare + s)
unfolding is_pgn fine
fine_more bits spare n s e = rw (or_narrow bits n, sum_zero spare s, e) (four (ltb bits (2 ^ 18)) (eqb spare 0) (ltb n (2 ^ 18)) (low_good n))

-- ---- a walk over a list: the first i are judged
pub record Judged (es : List ℕ) (i bits spare : ℕ) : Type 0 where
  pub left : Left (every is_pgn es) (λ rest. fine bits spare && every is_pgn rest) es i
  pub small : spare ≤ 255 * i

pub judged_none : (es : List ℕ) → Judged es 0 0 0
unfolding fine
judged_none es = record { left = left_all refl; small = omega arith }

module _ {es : List ℕ} {i bits spare : ℕ} (J : Judged es i bits spare) where
  pub judged_on : {n : ℕ} (s : ℕ) → i < length es → n ≡ get_or es i 0 → eqb s 0 ≡ low_good n → s ≤ 255 → Judged es (i + 1) (bit_or bits n) (spare + s)
  unfolding every
  judged_on {n} s turn here e l = record {
    left = left_one J.left turn (rw (sym here) (together (fine bits spare) (is_pgn n) _ ∙ rw (fine_more bits spare n s e)));
    small = omega (arith, J.small, l);
  }

  pub judged_narrow : length es ≤ i → bits < 2 ^ 18 → eqb spare 0 ≡ every is_pgn es
  unfolding every fine
  judged_narrow all l = rw (left_none J.left all, lt-ltb bits (2 ^ 18) l) (sym (and_true (eqb spare 0)))

  pub judged_wide : length es ≤ i → 2 ^ 18 ≤ bits → false ≡ every is_pgn es
  unfolding fine
  judged_wide all l = rw (left_none J.left all, le-ltb bits (2 ^ 18) l)

-- ---- PF is 240 and up where its upper four bits are ones
pub upper_ones : (n : ℕ) → n / 4096 % 16 ≡ 15 → leb 240 (n / 256 % 256) ≡ true
upper_ones n e = le-leb 240 (n / 256 % 256) (omega (arith, e))

pub upper_others : (n : ℕ) → (n / 4096 % 16 ≡ 15 → ⊥) → leb 240 (n / 256 % 256) ≡ false
upper_others n ne = lt-leb 240 (n / 256 % 256) (omega (arith, ne))
