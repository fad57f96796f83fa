-- Digits: hex in upper case, two a byte, the higher first; decimal without leading zeros. Characters are their numbers.
-- Assumes nothing.
use Rattle.std.specs.Prelude.{ℕ, zero, suc, ◌+◌, ◌-◌, ◌*◌, ◌/◌, ◌%◌, ◌<◌, ◌≡◌, Bool, cond, ◌&&◌, Option, None, Some, unwrap_or, List, [], ◌∷◌, ◌++◌, ltb, leb, get_or}

-- ---- hex
-- 0 to 9 and A to F
unfoldable pub hex_digit : ℕ → ℕ
hex_digit d = cond (ltb d 10) (48 + d) (55 + d)

-- what a digit stands for
unfoldable pub hex_value : ℕ → Option ℕ
hex_value c = cond (leb 48 c && leb c 57) (Some (c - 48)) (cond (leb 65 c && leb c 70) (Some (c - 55)) None)

pub record Reading (c : ℕ) (r : Option ℕ) : Type 0 where
  pub value : r ≡ hex_value c
  pub small : unwrap_or r 0 < 16

-- and 0 where a character is none
abbrev pub value_or_0 : ℕ → ℕ
value_or_0 c = unwrap_or (hex_value c) 0

-- the digits of bytes
unfoldable pub hex_of : List ℕ → List ℕ
hex_of [] = []
hex_of (b ∷ bs) = hex_digit (b / 16) ∷ hex_digit (b % 16) ∷ hex_of bs

-- the bytes that digits stand for
unfoldable pub hex_bytes : List ℕ → List ℕ
hex_bytes [] = []
hex_bytes (c ∷ []) = []
hex_bytes (c ∷ d ∷ cs) = (16 * value_or_0 c + value_or_0 d) ∷ hex_bytes cs

-- one of them, by the place of its first digit
abbrev pub pair_at : List ℕ → ℕ → ℕ
pair_at cs at = 16 * value_or_0 (get_or cs at 0) + value_or_0 (get_or cs (at + 1) 0)

-- the bytes of a number of 32 bits, the most significant first
abbrev pub four_bytes : ℕ → List ℕ
four_bytes n = (n / 16777216 % 256) ∷ (n / 65536 % 256) ∷ (n / 256 % 256) ∷ (n % 256) ∷ []

-- and the number that four bytes make
abbrev pub from_four : ℕ → ℕ → ℕ → ℕ → ℕ
from_four a b c d = 16777216 * a + 65536 * b + 256 * c + d

-- ---- decimal
abbrev pub is_decimal : ℕ → Bool
is_decimal c = leb 48 c && leb c 57

-- at most k digits
unfoldable pub decimal_in : ℕ → ℕ → List ℕ
decimal_in zero n = []
decimal_in (suc k) n = cond (ltb n 10) ((48 + n) ∷ []) (decimal_in k (n / 10) ++ ((48 + n % 10) ∷ []))

-- the digits of a number of 32 bits, which has ten at most
abbrev pub decimal_of : ℕ → List ℕ
decimal_of n = decimal_in 10 n
