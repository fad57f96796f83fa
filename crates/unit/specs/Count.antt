-- docs/RULES.md, "Frames and numbers": the number of ports, 2 to 8, chosen at power-on and held in the record; and how many directed pairs they make.
-- Assumes nothing.
use Rattle.std.specs.Prelude.{ℕ, ◌-◌, ◌*◌, ◌≤◌, Bool, cond, ◌&&◌, ◌≡◌, List, get_or, leb}

-- 27: port count not 2 to 8
unfoldable pub is_count : ℕ → Bool
is_count count = leb 2 count && leb count 8

-- the ports of a unit that was given a count: "as with four ports" where it is none
unfoldable pub count_of : ℕ → ℕ
count_of count = cond (is_count count) count 4

-- the ports of the unit in a record of any length: its fifth word says how many
unfoldable pub ports_of : List ℕ → ℕ
ports_of words = count_of (get_or words 4 0)

-- a number of ports was told, with its bounds
pub record Counting (ports r : ℕ) : Type 0 where
  pub count : r ≡ ports
  pub least : 2 ≤ r
  pub most : r ≤ 8

-- every port to every other
unfoldable pub pair_count : ℕ → ℕ
pair_count ports = ports * (ports - 1)
