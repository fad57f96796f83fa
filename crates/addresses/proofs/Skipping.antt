-- Places that are passed over, four at a time: a word of each is another than the value. Assumes nothing.
use mathlib.Core.Path.{◌≡◌}
use mathlib.Core.List.{List}
use Prim.Native.Nat.{ℕ, ◌+◌, ◌*◌, ◌≤◌}
use native.Mathlib.Decide.{ℕ_discrete}
use native.Mathlib.Omega.{arith}
use lib.ListN.{get_or}
use Rattle.addresses.specs.Table.{places}
use Rattle.addresses.specs.Steps.{Others, Skipping}

-- four words that are others
pub four_read : (words : List ℕ) (k a value : ℕ) → a + 4 ≤ places → (get_or words (2 * a + k) 0 ≡ value → ⊥) → (get_or words (2 * a + k + 2) 0 ≡ value → ⊥) → (get_or words (2 * a + k + 4) 0 ≡ value → ⊥) → (get_or words (2 * a + k + 6) 0 ≡ value → ⊥) → Others words k a value
four_read words k a value room first second third fourth =
    let one : 2 * a + k + 2 ≡ 2 * (a + 1) + k = omega arith in
    let two : 2 * a + k + 4 ≡ 2 * (a + 2) + k = omega arith in
    let three : 2 * a + k + 6 ≡ 2 * (a + 3) + k = omega arith in
    record { room = room; first = first; second = rw one at second; third = rw two at third; fourth = rw three at fourth }

module _ {words : List ℕ} {k start value : ℕ} where
  pub skip_none : start ≤ places → Skipping words k start value start
  skip_none h = record { onward = omega arith; within = h; others = λ i a b. absurd (omega arith) }

  pub skip_four : {r : ℕ} → Skipping words k start value r → Others words k r value → Skipping words k start value (r + 4)
  skip_four {r} S O = record {
    onward = omega (arith, S.onward);
    within = O.room;
    others = λ i a b.
        elim (ℕ_discrete i r) [
          | yes e ↦ rw e O.first
          | no n ↦ elim (ℕ_discrete i (r + 1)) [
            | yes e ↦ rw e O.second
            | no n1 ↦ elim (ℕ_discrete i (r + 2)) [
              | yes e ↦ rw e O.third
              | no n2 ↦ elim (ℕ_discrete i (r + 3)) [
                | yes e ↦ rw e O.fourth
                | no n3 ↦ S.others i a (omega arith)
              ]
            ]
          ]
        ];
  }

  -- past the first place
  pub skip_rest : {r : ℕ} → start + 1 ≤ r → Skipping words k start value r → Skipping words k (start + 1) value r
  skip_rest h S = record { onward = h; within = S.within; others = λ i a b. S.others i (omega arith) b }
