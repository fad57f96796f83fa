-- The contract of writing the address list of a port.
-- Assumes nothing.
use Rattle.std.specs.Prelude.{ℕ, ◌≤◌, ◌≡◌, List, ◌++◌, length, drop}
use Rattle.addresses.specs.Table.{places, table_of, addresses_on}

pub record Listing (words : List ℕ) (port except : ℕ) (before after : List ℕ) (r : ℕ) : Type 0 where
  pub written : after ≡ addresses_on port except (table_of words) ++ drop r before
  pub answer : r ≡ length (addresses_on port except (table_of words))
  pub small : r ≤ places
