-- 28 on the words that are lent, in the literals of docs/RULES.md, "Plans"; and what "each unit on it permits" and "no unit twice" say of a path of any length. A number
-- that is changed in code and definition together is refused here. `literals` of proofs/Literals.antt proves it. Assumes nothing.
use Rattle.std.specs.Prelude.{ℕ, ◌+◌, ◌*◌, ◌/◌, ◌%◌, ◌≤◌, ◌<◌, ◌≡◌, true, ◌&&◌, ◌||◌, ◌↔◌, List, ◌∷◌, ◌++◌, get_or, leb, ltb, eqb}
use Rattle.plan_shape.specs.Plan.{Plan, plan_of, in_range, Crossing, NoUnitTwice, Permits, EachPermits}

-- "a PGN if it is below 2^18 and, where its PF is below 240, its low byte is 0"
abbrev pub IsPgn : ℕ → Type 0
IsPgn n = (ltb n 262144 && (leb 240 (n / 256 % 256) || eqb (n % 256) 0)) ≡ true

-- a plan that is not 28: eight words of `ports` for each unit, and 34 words of `lists` for each of its 56 pairs: mode, count, 32 PGNs
pub record InPlan (segments units first pgn : ℕ) (ports lists : List ℕ) : Type 0 where
  -- "up to 16 segments and 16 units"; the segment asked is of the plan, and what is asked is a PGN
  pub most_segments_lem : segments ≤ 16
  pub most_units_lem : units ≤ 16
  pub from_1 : 1 ≤ first
  pub of_plan : first ≤ segments
  pub asked : IsPgn pgn
  -- "the segment on each of eight ports, 0 if unused"
  pub segment : (i : ℕ) → i < 8 * units → get_or ports i 0 ≤ segments
  -- mode 0 to 2; of a pair that is not cleared a count of at most 32, and as many PGNs
  pub mode : (i : ℕ) → i < 56 * units → get_or lists (34 * i) 0 ≤ 2
  pub count : (i : ℕ) → i < 56 * units → (get_or lists (34 * i) 0 ≡ 0 → ⊥) → get_or lists (34 * i + 1) 0 ≤ 32
  pub listed : (i j : ℕ) → i < 56 * units → (get_or lists (34 * i) 0 ≡ 0 → ⊥) → j < get_or lists (34 * i + 1) 0 → IsPgn (get_or lists (34 * i + (2 + j)) 0)

pub record Literals : Type 0 where
  -- "28 a number outside the plan or its range, or one asked or listed that is no PGN"
  pub range : (segments units first pgn : ℕ) (ports lists : List ℕ) → (in_range segments (plan_of units ports lists) first pgn ≡ true) ↔ InPlan segments units first pgn ports lists
  -- "each unit on it permits": wherever it stands on the path
  pub each : (plan : Plan) (pgn : ℕ) (cs : List Crossing)
      → EachPermits plan pgn cs ↔ ((before after : List Crossing) (c : Crossing) → cs ≡ before ++ c ∷ after → Permits plan pgn c)
  -- "no unit twice": wherever two stand on it
  pub once : (cs : List Crossing)
      → NoUnitTwice cs ↔ ((before between after : List Crossing) (c d : Crossing) → cs ≡ before ++ c ∷ between ++ d ∷ after → c.unit ≡ d.unit → ⊥)
