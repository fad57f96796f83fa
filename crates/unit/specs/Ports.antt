-- What is said of each port by itself, put together over the ports below n: a list changed place by place, a change for each in turn, a set of
-- ports as bits, a sum, a digit for each.
-- Assumes nothing.
use Rattle.std.specs.Prelude.{ℕ, zero, suc, ◌+◌, ◌*◌, ◌^◌, ◌/◌, ◌%◌, Bool, cond, List, [], ◌∷◌, eqb}

-- the first n elements, each changed by its index
unfoldable pub each : {A : Type 0} → (ℕ → A → A) → ℕ → List A → List A
each change zero xs = xs
each change (suc n) [] = []
each change (suc n) (x ∷ xs) = change zero x ∷ each (λ q. change (suc q)) n xs

-- bit q is set where the test holds of q
unfoldable pub mask : (ℕ → Bool) → ℕ → ℕ
mask test zero = 0
mask test (suc n) = mask test n + cond (test n) (2 ^ n) 0

-- whether bit q of a number is set
unfoldable pub bit_at : ℕ → ℕ → Bool
bit_at x q = eqb (x / 2 ^ q % 2) 1

-- what is done for each q below n, in turn, where the test holds of it
unfoldable pub in_turn : {A : Type 0} → (ℕ → Bool) → (ℕ → A → A) → ℕ → A → A
in_turn test change zero x = x
in_turn test change (suc n) x = cond (test n) (change n (in_turn test change n x)) (in_turn test change n x)

unfoldable pub total : (ℕ → ℕ) → ℕ → ℕ
total f zero = 0
total f (suc n) = total f n + f n

-- a number to the base 16 whose digit q is f q
unfoldable pub digits : (ℕ → ℕ) → ℕ → ℕ
digits f zero = 0
digits f (suc n) = digits f n + 16 ^ n * f n

-- digit q of a number to the base 16
unfoldable pub digit_at : ℕ → ℕ → ℕ
digit_at x q = x / 16 ^ q % 16
