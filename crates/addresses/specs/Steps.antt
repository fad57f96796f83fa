-- What the steps of the crate promise one another: places that are passed over. Word k of a place is its arrival port, 0, or its NAME, 1.
-- Assumes nothing.
use Rattle.std.specs.Prelude.{ℕ, ◌+◌, ◌*◌, ◌≤◌, ◌<◌, ◌≡◌, List, get_or}
use Rattle.addresses.specs.Table.{places}

-- word k of the place of an address is another than the value
abbrev pub Another : List ℕ → ℕ → ℕ → ℕ → Type 0
Another words k value address = get_or words (2 * address + k) 0 ≡ value → ⊥

-- four places from `address` on, of each of which it is another
pub record Others (words : List ℕ) (k address value : ℕ) : Type 0 where
  pub room : address + 4 ≤ places
  pub first : Another words k value address
  pub second : Another words k value (address + 1)
  pub third : Another words k value (address + 2)
  pub fourth : Another words k value (address + 3)

-- of each place from `start` on and before r it is another
pub record Skipping (words : List ℕ) (k start value r : ℕ) : Type 0 where
  pub onward : start ≤ r
  pub within : r ≤ places
  pub others : (i : ℕ) → start ≤ i → i < r → Another words k value i
