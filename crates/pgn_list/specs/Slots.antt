-- An index of a list of numbers, which the functions inside search by. Each number has a slot. A slot that is 0 says that no number of the list has it; else it is a place in
-- the list, from 1, at which to look first.
-- Assumes nothing.
use Rattle.std.specs.Prelude.{ℕ, ◌+◌, ◌/◌, ◌%◌, ◌≤◌, ◌<◌, ◌≡◌, List, length, get_or}

abbrev pub slots : ℕ
slots = 128

-- by the two low bytes, since all PGNs with a destination have 0 for the last
unfoldable pub slot_of : ℕ → ℕ
slot_of x = (x / 256 % slots + x % slots) % slots

-- the first n of a list are noted
pub record Indexed (list : List ℕ) (n : ℕ) (index : List ℕ) : Type 0 where
  pub long : length index ≡ slots
  pub noted : (j : ℕ) → j < n → get_or index (slot_of (get_or list j 0)) 0 ≡ 0 → ⊥
  pub inside : (s : ℕ) → get_or index s 0 ≤ n
