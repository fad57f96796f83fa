-- One element taken out of a list, and the shift in place that does it: each step copies one element down. Assumes nothing.
use Rattle.std.proofs.Common.{◌≡◌, ℕ, zero, suc, ◌+◌, ◌-◌, ◌<◌, ◌≤◌, List, [], ◌∷◌, ◌++◌, length, get_or, take, drop, set, refl, ap, ◌∙◌, le_of_suc-le-suc, not-suc-le-zero, add-one, arith, length-take-le, take_at}
use lib.Seq.{take-nil}
use Rattle.queue.specs.Steps.{remove_at}

-- the first of a list are as many as they are
pub take_held : {A : Type 0} (n : ℕ) (xs : List A) → take n xs ≡ take (length (take n xs)) xs
take_held zero xs = refl
take_held (suc n) [] = refl
take_held (suc n) (x ∷ xs) = ap (λ l. x ∷ l) (take_held n xs)

module _ {A : Type 0} where
  -- a store at i takes the copy of i elements to the copy of one more
  store : (src dst : List A) (i : ℕ) (d : A) → i < length src → i < length dst → set (take i src ++ drop i dst) i (get_or src i d) ≡ take (suc i) src ++ drop (suc i) dst
  store [] dst i d h k = absurd (not-suc-le-zero h)
  store (x ∷ xs) [] i d h k = absurd (not-suc-le-zero k)
  store (x ∷ xs) (y ∷ ys) zero d h k = refl
  store (x ∷ xs) (y ∷ ys) (suc i) d h k = ap {B = List A} (λ l. x ∷ l) (store xs ys i d (le_of_suc-le-suc h) (le_of_suc-le-suc k))

  -- what has not been stored over is as it was
  later : (src dst : List A) (i j : ℕ) (d : A) → i ≤ length src → i ≤ length dst → i ≤ j → get_or (take i src ++ drop i dst) j d ≡ get_or dst j d
  later src dst zero j d h g k = refl
  later [] dst (suc i) j d h g k = absurd (not-suc-le-zero h)
  later (x ∷ xs) [] (suc i) j d h g k = absurd (not-suc-le-zero g)
  later (x ∷ xs) (y ∷ ys) (suc i) zero d h g k = absurd (not-suc-le-zero k)
  later (x ∷ xs) (y ∷ ys) (suc i) (suc j) d h g k = later xs ys i j d (le_of_suc-le-suc h) (le_of_suc-le-suc g) (le_of_suc-le-suc k)

  length_remove_at : (i : ℕ) (xs : List A) → i < length xs → suc (length (remove_at i xs)) ≡ length xs
  unfolding remove_at
  length_remove_at i [] h = absurd (not-suc-le-zero h)
  length_remove_at zero (x ∷ xs) h = refl
  length_remove_at (suc i) (x ∷ xs) h = ap suc (length_remove_at i xs (le_of_suc-le-suc h))

  -- from b on, what is left after b went out is what stood one further on
  get_remove_at : (b : ℕ) (xs : List A) (i : ℕ) (d : A) → b ≤ i → get_or (remove_at b xs) i d ≡ get_or xs (suc i) d
  unfolding remove_at
  get_remove_at zero [] i d h = refl
  get_remove_at (suc b) [] i d h = refl
  get_remove_at zero (x ∷ xs) i d h = refl
  get_remove_at (suc b) (x ∷ xs) zero d h = absurd (not-suc-le-zero h)
  get_remove_at (suc b) (x ∷ xs) (suc i) d h = get_remove_at b xs i d (le_of_suc-le-suc h)

  -- out of the first m + 1, or out of all and then the first m
  take_remove_at : (b m : ℕ) (xs : List A) → b ≤ m → take m (remove_at b xs) ≡ remove_at b (take (suc m) xs)
  unfolding remove_at
  take_remove_at zero m [] h = take-nil m
  take_remove_at (suc b) m [] h = take-nil m
  take_remove_at zero m (x ∷ xs) h = refl
  take_remove_at (suc b) zero (x ∷ xs) h = absurd (not-suc-le-zero h)
  take_remove_at (suc b) (suc m) (x ∷ xs) h = ap {B = List A} (λ l. x ∷ l) (take_remove_at b m xs (le_of_suc-le-suc h))

-- ---- the shift, as a loop does it: up to i the list without element b, from i on the list as it was
abbrev pub shifted : {A : Type 0} → ℕ → ℕ → List A → List A
shifted b i xs = take i (remove_at b xs) ++ drop i xs

module _ {A : Type 0} where
  pub shift_start : (b : ℕ) (xs : List A) → xs ≡ shifted b b xs
  unfolding remove_at
  shift_start zero xs = refl
  shift_start (suc b) [] = refl
  shift_start (suc b) (x ∷ xs) = ap {B = List A} (λ l. x ∷ l) (shift_start b xs)

  pub shift_step : (b i : ℕ) (xs : List A) (d : A) → b ≤ i → i + 1 < length xs → set (shifted b i xs) i (get_or (shifted b i xs) (i + 1) d) ≡ shifted b (i + 1) xs
  shift_step b i xs d h k =
      let n : suc (length (remove_at b xs)) ≡ length xs = length_remove_at b xs (omega arith) in
      rw (add-one i, later (remove_at b xs) xs i (suc i) d (omega arith) (omega arith) (omega arith), ← (get_remove_at b xs i d h))
      (store (remove_at b xs) xs i d (omega arith) (omega arith))

  pub shift_done : (b m : ℕ) (xs : List A) → b < m → m ≤ length xs → take (m - 1) (shifted b (m - 1) xs) ≡ remove_at b (take m xs)
  shift_done b zero xs h k = absurd (not-suc-le-zero h)
  shift_done b (suc m) xs h k =
      let e : suc m - 1 ≡ m = omega arith in
      let n : suc (length (remove_at b xs)) ≡ length xs = length_remove_at b xs (omega arith) in
      rw e (take_at (take m (remove_at b xs)) (drop m xs) m (length-take-le m (remove_at b xs) (omega arith)) ∙ take_remove_at b m xs (le_of_suc-le-suc h))
