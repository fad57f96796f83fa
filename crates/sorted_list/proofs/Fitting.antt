-- A list made of a length. Assumes nothing.
use mathlib.Core.Path.{◌≡◌, refl, ap}
use mathlib.Core.List.{List, [], ◌∷◌, ◌++◌, append_assoc}
use Prim.Native.Nat.{ℕ, zero, suc, ◌+◌, ◌-◌, ◌≤◌}
use native.Mathlib.Omega.{arith}
use lib.ListN.{length, take, replicate, length-append, length-replicate}
use lib.Seq.{take-take, take_at, take-append-le, length-take-le}
use Rattle.sorted_list.specs.SortedList.{fitted}

-- ---- a list of that length stays
pub fitted_same : (size : ℕ) (xs : List ℕ) → length xs ≡ size → fitted size xs ≡ xs
unfolding fitted
fitted_same size xs h = take_at xs (replicate size 0) size h

pub fitted_length : (size : ℕ) (xs : List ℕ) → length (fitted size xs) ≡ size
unfolding fitted
fitted_length size xs = length-take-le size (xs ++ replicate size 0) (omega (arith, length-append xs (replicate size 0), length-replicate {A = ℕ} size 0))

-- how many zeros follow does not show in the front
pad : (s : ℕ) (xs : List ℕ) (j k : ℕ) → s ≤ length xs + j → s ≤ length xs + k → take s (xs ++ replicate j 0) ≡ take s (xs ++ replicate k 0)
pad zero xs j k h g = refl
pad (suc s) [] zero k h g = absurd (omega arith)
pad (suc s) [] (suc j) zero h g = absurd (omega arith)
pad (suc s) [] (suc j) (suc k) h g = ap (λ l. 0 ∷ l) (pad s [] j k (omega arith) (omega arith))
pad (suc s) (x ∷ xs) j k h g = ap (λ l. x ∷ l) (pad s xs j k (omega arith) (omega arith))

module _ (size : ℕ) (n : ℕ) (list : List ℕ) (fits : n ≤ length list) where
  -- those that are missing become 0
  pub fitted_more : {ys : List ℕ} (rest : List ℕ) → n ≤ size → ys ≡ replicate (size - n) 0 → take size (take n list ++ (ys ++ rest)) ≡ fitted size (take n list)
  unfolding fitted
  fitted_more {ys} rest h e =
      let l = length-take-le n list fits in
      let zeros : List ℕ = replicate (size - n) 0 in
      rw (e, ← (append_assoc (take n list) zeros rest), take-append-le size (take n list ++ zeros) rest (omega (arith, l, length-append (take n list) zeros, length-replicate {A = ℕ} (size - n) 0)))
      (pad size (take n list) (size - n) size (omega (arith, l)) (omega (arith, l)))

  -- those behind are left out
  pub fitted_less : size ≤ n → take size list ≡ fitted size (take n list)
  unfolding fitted
  fitted_less h =
      let l = length-take-le n list fits in
      rw (take-append-le size (take n list) (replicate size 0) (omega (arith, l)), take-take size n list h)
