-- The picture holds: neighbouring fields are one wider field, so all six are the lower 29 bits; and a sum at the places is taken apart by division and remainder. Assumes nothing.
use mathlib.Core.Path.{◌≡◌, ◌∙◌}
use Prim.Native.Nat.{ℕ, ◌+◌, ◌*◌, ◌/◌, ◌%◌, ◌^◌, ◌<◌}
use native.Mathlib.Nat.{mod-lt, mod-eq_of_lt, div-div-eq-div-mul}
use lib.Pow.{pow-add, mod-pow-add}
use native.Mathlib.Omega.{arith}
use Rattle.identifier.specs.Identifier.{priority_of, extended_data_page_of, data_page_of, pf_of, ps_of, sa_of}
use Rattle.identifier.specs.Picture.{Fields, InRange, fields_of, placed, Picture}

-- ---- the fields add up
-- neighbouring fields, read as one: n bits above m bits, from bit k on
neighbours : (id k m n : ℕ) → id / 2 ^ k % 2 ^ (n + m) ≡ id / 2 ^ (k + m) % 2 ^ n * 2 ^ m + id / 2 ^ k % 2 ^ m
neighbours id k m n = mod-pow-add (id / 2 ^ k) n m ∙ rw (div-div-eq-div-mul id (2 ^ k) (2 ^ m), ← (pow-add 2 k m))

-- a field at a time, from the lowest bit up
wider : (id : ℕ) → placed (fields_of id) ≡ id % 2 ^ 29
wider id =
    sum _ _ _ _ _ _ _ _ _ _ _ (mod-pow-add id 21 8) (neighbours id 8 8 13) (neighbours id 16 8 5) (neighbours id 24 1 4) (neighbours id 25 1 3)
  where
    sum : (v w x y z p e d f s a : ℕ) → v ≡ w * 2 ^ 8 + a → w ≡ x * 2 ^ 8 + s → x ≡ y * 2 ^ 8 + f → y ≡ z * 2 ^ 1 + d → z ≡ p * 2 ^ 1 + e
        → p * 2 ^ 26 + e * 2 ^ 25 + d * 2 ^ 24 + f * 2 ^ 16 + s * 2 ^ 8 + a ≡ v
    sum v w x y z p e d f s a h1 h2 h3 h4 h5 = omega arith

pub in_range_lem : (id : ℕ) → InRange (fields_of id)
in_range_lem id = record {
  priority = mod-lt (id / 2 ^ 26) (omega arith);
  extended_data_page = mod-lt (id / 2 ^ 25) (omega arith);
  data_page = mod-lt (id / 2 ^ 24) (omega arith);
  pf = mod-lt (id / 2 ^ 16) (omega arith);
  ps = mod-lt (id / 2 ^ 8) (omega arith);
  sa = mod-lt id (omega arith);
}

-- ---- the way back
module _ (x : Fields) (r : InRange x) where
  small : placed x < 2 ^ 29
  small = omega (arith, r)

  priority_back : priority_of (placed x) ≡ x.priority
  priority_back = omega arith

  extended_data_page_back : extended_data_page_of (placed x) ≡ x.extended_data_page
  extended_data_page_back = omega arith

  data_page_back : data_page_of (placed x) ≡ x.data_page
  data_page_back = omega arith

  pf_back : pf_of (placed x) ≡ x.pf
  pf_back = omega arith

  ps_back : ps_of (placed x) ≡ x.ps
  ps_back = omega arith

  sa_back : sa_of (placed x) ≡ x.sa
  sa_back = omega arith

  back : fields_of (placed x) ≡ x
  back = rw (priority_back, extended_data_page_back, data_page_back, pf_back, ps_back, sa_back)

pub picture : Picture
picture = record {
  adds_up = λ id h. wider id ∙ mod-eq_of_lt h;
  wider = wider;
  in_range_lem = in_range_lem;
  small = small;
  back = back;
}
