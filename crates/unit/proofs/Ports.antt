-- The loop over the ports: one more port, and what the ports' lists, bits, sums and digits say of each port by itself. Assumes nothing.
use mathlib.Core.Path.{◌≡◌, refl, ap, ◌∙◌}
use mathlib.Core.Bool.{Bool, true, false, cond}
use mathlib.Core.List.{List, [], ◌∷◌}
use Prim.Native.Nat.{ℕ, zero, suc, ◌+◌, ◌-◌, ◌*◌, ◌^◌, ◌/◌, ◌≤◌, ◌<◌}
use native.Mathlib.Nat.{not-suc-le-zero, le_of_suc-le-suc, pow-suc, pow-succ', pow-le-pow_right, add-mul-div_left, add-mul-mod_self_left, add-div_right, div-eq_of_lt, mod-eq_of_lt, mul_assoc, mul-suc, mul-le-mul_left, zero-add}
use native.Mathlib.Decide.{ℕ_discrete}
use native.Mathlib.Numerals.{add-one}
use native.Mathlib.Omega.{arith}
use lib.Dec.{eqb, eqb-zero-suc, eqb-suc-zero, eqb-suc-suc}
use lib.Pow.{pow-add}
use lib.ListN.{length, get_or, set}
use Rattle.unit.specs.Ports.{each, in_turn, mask, bit_at, total, digits, digit_at}

-- ---- a list changed place by place
module _ {A : Type 0} where
  -- what has not been passed is as it was
  pub each_later : (change : ℕ → A → A) (n : ℕ) (xs : List A) (q : ℕ) (d : A) → n ≤ q → get_or (each change n xs) q d ≡ get_or xs q d
  unfolding each
  each_later change zero xs q d h = refl
  each_later change (suc n) [] q d h = refl
  each_later change (suc n) (x ∷ xs) zero d h = absurd (not-suc-le-zero h)
  each_later change (suc n) (x ∷ xs) (suc q) d h = each_later (λ i. change (suc i)) n xs q d (le_of_suc-le-suc h)

  -- what has been passed is changed
  pub each_at : (change : ℕ → A → A) (n : ℕ) (xs : List A) (q : ℕ) (d : A) → q < n → q < length xs → get_or (each change n xs) q d ≡ change q (get_or xs q d)
  unfolding each
  each_at change zero xs q d h k = absurd (not-suc-le-zero h)
  each_at change (suc n) [] q d h k = absurd (not-suc-le-zero k)
  each_at change (suc n) (x ∷ xs) zero d h k = refl
  each_at change (suc n) (x ∷ xs) (suc q) d h k = each_at (λ i. change (suc i)) n xs q d (le_of_suc-le-suc h) (le_of_suc-le-suc k)

  step : (change : ℕ → A → A) (n : ℕ) (xs : List A) (d : A) → n < length xs → set (each change n xs) n (change n (get_or xs n d)) ≡ each change (suc n) xs
  unfolding each
  step change n [] d h = absurd (not-suc-le-zero h)
  step change zero (x ∷ xs) d h = refl
  step change (suc n) (x ∷ xs) d h = ap {B = List A} (λ l. change zero x ∷ l) (step (λ i. change (suc i)) n xs d (le_of_suc-le-suc h))

  -- one more turn: element n of what there is now is changed
  pub each_step : (change : ℕ → A → A) (n : ℕ) (xs : List A) (d : A) → n < length xs → set (each change n xs) n (change n (get_or (each change n xs) n d)) ≡ each change (n + 1) xs
  each_step change n xs d h = rw (each_later change n xs n d (omega arith), add-one n) (step change n xs d h)

  -- changes that agree
  pub each_same : (f g : ℕ → A → A) → ((q : ℕ) (x : A) → f q x ≡ g q x) → (n : ℕ) (xs : List A) → each f n xs ≡ each g n xs
  unfolding each
  each_same f g h zero xs = refl
  each_same f g h (suc n) [] = refl
  each_same f g h (suc n) (x ∷ xs) = rw (h zero x, each_same (λ i. f (suc i)) (λ i. g (suc i)) (λ q. h (suc q)) n xs)

  -- no change
  pub each_none : (n : ℕ) (xs : List A) → each (λ q x. x) n xs ≡ xs
  unfolding each
  each_none zero xs = refl
  each_none (suc n) [] = refl
  each_none (suc n) (x ∷ xs) = ap {B = List A} (λ l. x ∷ l) (each_none n xs)

  -- one change after the other
  pub each_twice : (f g : ℕ → A → A) (n : ℕ) (xs : List A) → each g n (each f n xs) ≡ each (λ q x. g q (f q x)) n xs
  unfolding each
  each_twice f g zero xs = refl
  each_twice f g (suc n) [] = refl
  each_twice f g (suc n) (x ∷ xs) = ap {B = List A} (λ l. g zero (f zero x) ∷ l) (each_twice (λ i. f (suc i)) (λ i. g (suc i)) n xs)

  -- a change at one place alone
  pub each_one : (f : A → A) (p n : ℕ) (xs : List A) (d : A) → p < n → p < length xs → each (λ q x. cond (eqb p q) (f x) x) n xs ≡ set xs p (f (get_or xs p d))
  unfolding each
  each_one f p zero xs d h k = absurd (not-suc-le-zero h)
  each_one f p (suc n) [] d h k = absurd (not-suc-le-zero k)
  each_one f zero (suc n) (x ∷ xs) d h k =
      ap {B = List A} (λ l. f x ∷ l)
      (each_same (λ q y. cond (eqb zero (suc q)) (f y) y) (λ q y. y) (λ q y. rw (eqb-zero-suc q)) n xs ∙ each_none n xs)
  each_one f (suc p) (suc n) (x ∷ xs) d h k =
      rw (eqb-suc-zero p)
      (ap {B = List A} (λ l. x ∷ l)
      (each_same (λ q y. cond (eqb (suc p) (suc q)) (f y) y) (λ q y. cond (eqb p q) (f y) y) (λ q y. rw (eqb-suc-suc p q)) n xs
      ∙ each_one f p n xs d (le_of_suc-le-suc h) (le_of_suc-le-suc k)))

  pub length_each : (change : ℕ → A → A) (n : ℕ) (xs : List A) → length (each change n xs) ≡ length xs
  unfolding each
  length_each change zero xs = refl
  length_each change (suc n) [] = refl
  length_each change (suc n) (x ∷ xs) = ap suc (length_each (λ i. change (suc i)) n xs)

-- ---- bits
pub mask_step : (test : ℕ → Bool) (n : ℕ) → mask test (n + 1) ≡ mask test n + cond (test n) (2 ^ n) 0
unfolding mask
mask_step test n = rw (add-one n)

pub mask_same : (s t : ℕ → Bool) (n : ℕ) → ((q : ℕ) → q < n → s q ≡ t q) → mask s n ≡ mask t n
unfolding mask
mask_same s t zero h = refl
mask_same s t (suc n) h = rw (mask_same s t n (λ q l. h q (omega arith)), h n (omega arith))

pub mask_none : (n : ℕ) → mask (λ q. false) n ≡ 0
unfolding mask
mask_none zero = refl
mask_none (suc n) = rw (mask_none n)

-- a choice of k or nothing is at most k
pub choice_small : (b : Bool) (k : ℕ) → cond b k 0 ≤ k
choice_small true k = omega arith
choice_small false k = omega arith

pub mask_small : (test : ℕ → Bool) (n : ℕ) → mask test n < 2 ^ n
unfolding mask
mask_small test zero = omega arith
mask_small test (suc n) = omega (arith, mask_small test n, choice_small (test n) (2 ^ n), pow-suc 2 n)

two_pow : (n : ℕ) → 0 < 2 ^ n
two_pow n = omega (arith, pow-le-pow_right {n = 2} (omega arith) {i = 0} {j = n} (omega arith))

-- a multiple of 2^(q + 1) has no say in bit q
bit_above : (x q k : ℕ) (b : Bool) → bit_at (x + cond b (2 ^ (q + suc k)) 0) q ≡ bit_at x q
unfolding bit_at
bit_above x q k true =
    let e : 2 ^ (q + suc k) ≡ 2 ^ q * (2 * 2 ^ k) = pow-add 2 q (suc k) ∙ rw (pow-succ' 2 k) in
    rw (e, add-mul-div_left x (2 * 2 ^ k) {y = 2 ^ q} (two_pow q), add-mul-mod_self_left (x / 2 ^ q) 2 (2 ^ k))
bit_above x q k false = let e : x + 0 ≡ x = omega arith in rw e

bit_top : (x n : ℕ) (b : Bool) → x < 2 ^ n → bit_at (x + cond b (2 ^ n) 0) n ≡ b
unfolding bit_at
bit_top x n true h = rw (add-div_right x {k = 2 ^ n} (two_pow n), div-eq_of_lt h)
bit_top x n false h = let e : x + 0 ≡ x = omega arith in rw (e, div-eq_of_lt h)

-- bit q of a mask is the test at port q
pub mask_bit : (test : ℕ → Bool) (n q : ℕ) → q < n → bit_at (mask test n) q ≡ test q
unfolding mask
mask_bit test zero q h = absurd (not-suc-le-zero h)
mask_bit test (suc n) q h =
    elim (ℕ_discrete q n) [
      | yes e ↦ rw e (bit_top (mask test n) n (test n) (mask_small test n))
      | no ne ↦
          let e : n ≡ q + suc (n - q - 1) = omega arith in
          lower (mask test n) n q (n - q - 1) (test n) e ∙ mask_bit test n q (omega arith)
    ]
  where
    lower : (x n q k : ℕ) (b : Bool) → n ≡ q + suc k → bit_at (x + cond b (2 ^ n) 0) q ≡ bit_at x q
    lower x n q k b e = rw e (bit_above x q k b)

-- ---- sums
pub total_step : (f : ℕ → ℕ) (n : ℕ) → total f (n + 1) ≡ total f n + f n
unfolding total
total_step f n = rw (add-one n)

pub total_none : (n : ℕ) → total (λ q. 0) n ≡ 0
unfolding total
total_none zero = refl
total_none (suc n) = rw (total_none n)

-- ---- digits
pub digits_step : (f : ℕ → ℕ) (n : ℕ) → digits f (n + 1) ≡ digits f n + 16 ^ n * f n
unfolding digits
digits_step f n = rw (add-one n)

pub digits_none : (n : ℕ) → digits (λ q. 0) n ≡ 0
unfolding digits
digits_none zero = refl
digits_none (suc n) = rw (digits_none n) (omega arith)

weight_more : (n d : ℕ) → d < 16 → 16 ^ n * d + 16 ^ n ≤ 16 ^ suc n
weight_more n d h = rw (pow-suc 16 n, ← (mul-suc (16 ^ n) d)) (mul-le-mul_left (16 ^ n) h)

pub digits_small : (f : ℕ → ℕ) → ((q : ℕ) → f q < 16) → (n : ℕ) → digits f n < 16 ^ n
unfolding digits
digits_small f h zero = omega arith
digits_small f h (suc n) = omega (arith, digits_small f h n, weight_more n (f n) (h n))

sixteen_pow : (n : ℕ) → 0 < 16 ^ n
sixteen_pow n = omega (arith, pow-le-pow_right {n = 16} (omega arith) {i = 0} {j = n} (omega arith))

digit_above : (x q k d : ℕ) → digit_at (x + 16 ^ (q + suc k) * d) q ≡ digit_at x q
unfolding digit_at
digit_above x q k d =
    let e : 16 ^ (q + suc k) * d ≡ 16 ^ q * (16 * (16 ^ k * d)) = rw (pow-add 16 q (suc k), pow-succ' 16 k, mul_assoc (16 ^ q) (16 * 16 ^ k) d, mul_assoc 16 (16 ^ k) d) in
    rw (e, add-mul-div_left x (16 * (16 ^ k * d)) {y = 16 ^ q} (sixteen_pow q), add-mul-mod_self_left (x / 16 ^ q) 16 (16 ^ k * d))

digit_top : (x n d : ℕ) → x < 16 ^ n → d < 16 → digit_at (x + 16 ^ n * d) n ≡ d
unfolding digit_at
digit_top x n d h l = rw (add-mul-div_left x d {y = 16 ^ n} (sixteen_pow n), div-eq_of_lt h, zero-add d) (mod-eq_of_lt l)

-- digit q is that of port q
pub digit_at_lem : (f : ℕ → ℕ) → ((q : ℕ) → f q < 16) → (n q : ℕ) → q < n → digit_at (digits f n) q ≡ f q
unfolding digits
digit_at_lem f small zero q h = absurd (not-suc-le-zero h)
digit_at_lem f small (suc n) q h =
    elim (ℕ_discrete q n) [
      | yes e ↦ rw e (digit_top (digits f n) n (f n) (digits_small f small n) (small n))
      | no ne ↦
          let e : n ≡ q + suc (n - q - 1) = omega arith in
          lower (digits f n) n q (n - q - 1) (f n) e ∙ digit_at_lem f small n q (omega arith)
    ]
  where
    lower : (x n q k d : ℕ) → n ≡ q + suc k → digit_at (x + 16 ^ n * d) q ≡ digit_at x q
    lower x n q k d e = rw e (digit_above x q k d)

-- past the ports stands no digit
pub digit_past : (f : ℕ → ℕ) → ((q : ℕ) → f q < 16) → (n q : ℕ) → n ≤ q → digit_at (digits f n) q ≡ 0
unfolding digit_at
digit_past f small n q h = rw (div-eq_of_lt (below (digits_small f small n) (pow-le-pow_right {n = 16} (omega arith) {i = n} {j = q} h)))
  where
    below : {x a b : ℕ} → x < a → a ≤ b → x < b
    below l m = omega arith

-- ---- a change for each in turn
module _ {A : Type 0} where
  pub turn_step : (test : ℕ → Bool) (change : ℕ → A → A) (n : ℕ) (x : A) → in_turn test change (n + 1) x ≡ cond (test n) (change n (in_turn test change n x)) (in_turn test change n x)
  unfolding in_turn
  turn_step test change n x = rw (add-one n) refl

  -- tests that agree
  pub turn_same : (test other : ℕ → Bool) (change : ℕ → A → A) (n : ℕ) (x : A) → ((q : ℕ) → q < n → test q ≡ other q) → in_turn test change n x ≡ in_turn other change n x
  unfolding in_turn
  turn_same test other change zero x h = refl
  turn_same test other change (suc n) x h = rw (h n (omega arith), turn_same test other change n x (λ q l. h q (omega arith)))

  pub turn_none : (change : ℕ → A → A) (n : ℕ) (x : A) → in_turn (λ q. false) change n x ≡ x
  unfolding in_turn
  turn_none change zero x = refl
  turn_none change (suc n) x = turn_none change n x
