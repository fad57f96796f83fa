-- The number of ports: its bounds, the pairs that it makes, and where a pair's place lies among them. Assumes nothing.
use mathlib.Core.Path.{◌≡◌, refl}
use mathlib.Core.Bool.{Bool, true, false, cond}
use mathlib.Core.List.{List}
use Prim.Native.Nat.{ℕ, suc, ◌+◌, ◌-◌, ◌*◌, ◌≤◌, ◌<◌}
use native.Mathlib.Nat.{mul_comm, mul-suc, mul-le-mul, mul-le-mul_left}
use native.Mathlib.Omega.{arith}
use borrow.Author.Tests.{le-leb, lt-leb, leb-true}
use lib.ListN.{get_or, take}
use lib.Dec.{leb}
use lib.Seq.{get_or-take}
use Rattle.checks.proofs.Tests.{both}
use Rattle.unit.specs.Count.{is_count, count_of, ports_of, Counting, pair_count}

-- ---- a count
pub is_count_lem : {count : ℕ} → 2 ≤ count → count ≤ 8 → is_count count ≡ true
unfolding is_count
is_count_lem {count} l m = rw (le-leb 2 count l, le-leb count 8 m)

pub too_few : {count : ℕ} → count < 2 → is_count count ≡ false
unfolding is_count
too_few {count} h = rw (lt-leb 2 count h)

pub too_many : {count : ℕ} → 8 < count → is_count count ≡ false
unfolding is_count
too_many {count} h = rw (le-leb 2 count (omega arith), lt-leb count 8 h)

pub count_bounds : (count : ℕ) → (2 ≤ count_of count) × (count_of count ≤ 8)
unfolding count_of is_count
count_bounds count = go (is_count count) refl
  where
    go : (b : Bool) → is_count count ≡ b → (2 ≤ cond b count 4) × (cond b count 4 ≤ 8)
    go true e = let p = both (leb 2 count) (leb count 8) e in (leb-true 2 count p.0, leb-true count 8 p.1)
    go false e = (omega arith, omega arith)

pub counted : (count : ℕ) {r : ℕ} → r ≡ count_of count → Counting (count_of count) r
counted count e = let b = count_bounds count in record { count = e; least = rw e b.0; most = rw e b.1 }

-- a count that may be is the number of ports, another is four
pub count_kept : (count : ℕ) → is_count count ≡ true → count_of count ≡ count
unfolding count_of
count_kept count e = rw e

pub count_four : (count : ℕ) → is_count count ≡ false → count_of count ≡ 4
unfolding count_of
count_four count e = rw e

pub count_same : {count : ℕ} → 2 ≤ count → count ≤ 8 → count_of count ≡ count
count_same {count} l m = count_kept count (is_count_lem l m)

-- a count that is taken as it is may be
pub count_taken : (count : ℕ) → count_of count ≡ count → is_count count ≡ true
count_taken count e = let b = count_bounds count in is_count_lem (rw e at b.0) (rw e at b.1)

pub count_refused : (count : ℕ) → (count_of count ≡ count → ⊥) → is_count count ≡ false
count_refused count ne = go (is_count count) refl
  where
    go : (b : Bool) → is_count count ≡ b → b ≡ false
    go true e = absurd (ne (count_kept count e))
    go false e = refl

-- ---- the count that a record holds
pub ports_bounds : (words : List ℕ) → (2 ≤ ports_of words) × (ports_of words ≤ 8)
unfolding ports_of
ports_bounds words = count_bounds (get_or words 4 0)

-- the record's first words say it
pub ports_taken : (words : List ℕ) → ports_of (take 5 words) ≡ ports_of words
unfolding ports_of
ports_taken words = rw (get_or-take 5 words 4 0 (omega arith))

-- ---- pairs
pub pairs_most : {ports : ℕ} → ports ≤ 8 → pair_count ports ≤ 56
unfolding pair_count
pairs_most {ports} h = mul-le-mul {n₁ = ports} {m₁ = ports - 1} {n₂ = 8} {m₂ = 7} h (omega arith)

-- the pairs from port p are among them
pub row_within : {ports p : ℕ} → p < ports → (ports - 1) * p + (ports - 1) ≤ pair_count ports
unfolding pair_count
row_within {ports} {p} h =
    let row : (ports - 1) * suc p ≤ (ports - 1) * ports = mul-le-mul_left (ports - 1) (omega arith) in
    omega (arith, row, mul-suc (ports - 1) p, mul_comm ports (ports - 1))

-- so many stand before them
pub row_below : {ports p : ℕ} → p < ports → (ports - 1) * p ≤ pair_count ports
row_below h = omega (arith, row_within h)

-- the kth of them is one of all
pub pair_below : {ports p k : ℕ} → p < ports → k < ports - 1 → (ports - 1) * p + k < pair_count ports
pair_below h l = omega (arith, row_within h)
