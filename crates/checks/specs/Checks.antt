-- docs/RULES.md, "Numbers given back": checks in order, and the number of the first that applies, 0 where none does.
-- Assumes nothing.
use Rattle.std.specs.Prelude.{Bool, cond, ◌&&◌, ◌||◌, List, [], ◌∷◌, ℕ, leb, eqb}

pub record Check : Type 0 where
  pub applies : Bool
  pub number : ℕ

abbrev pub check : Bool → ℕ → Check
check applies number = record { applies = applies; number = number }

abbrev pub first : List Check → ℕ
first [] = 0
first (c ∷ cs) = cond c.applies c.number (first cs)

-- 9 to 17, 22 and 23 write the acknowledgment
abbrev pub acknowledges : ℕ → Bool
acknowledges number = (leb 9 number && leb number 17) || (eqb number 22 || eqb number 23)
