-- Bytes and the number that they make, least significant first.
-- Assumes nothing.
use Rattle.std.specs.Prelude.{ℕ, zero, suc, ◌+◌, ◌*◌, ◌/◌, ◌%◌, ◌^◌, ◌<◌, ◌≡◌, List, [], ◌∷◌, take, drop}

-- the number that bytes make
unfoldable pub packed : List ℕ → ℕ
packed [] = 0
packed (b ∷ bs) = b + 256 * packed bs

-- the n lowest bytes of a number
unfoldable pub bytes_of : ℕ → ℕ → List ℕ
bytes_of zero w = []
bytes_of (suc n) w = w % 256 ∷ bytes_of n (w / 256)

-- r is the number that n bytes from `at` on make
pub record Packing (n : ℕ) (bytes : List ℕ) (at r : ℕ) : Type 0 where
  pub number : r ≡ packed (take n (drop at bytes))
  pub small : r < 256 ^ n
