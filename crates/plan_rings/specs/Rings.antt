-- Which segments and units are joined: a label for each, place s for segment s, places 32 and up for the units. Assumes nothing.
use Rattle.std.specs.Prelude.{ℕ, ◌+◌, ◌*◌, ◌/◌, ◌<◌, ◌≡◌, Bool, true, false, cond, ◌⊎◌, List, length, get_or, eqb}
use Rattle.plan_shape.specs.Plan.{most_segments, most_units, port_count}

abbrev pub unit_node : ℕ → ℕ
unit_node unit = 2 * most_segments + unit

abbrev pub nodes : ℕ
nodes = 2 * most_segments + most_units

abbrev pub label : List ℕ → ℕ → ℕ
label labels node = get_or labels node 0

-- every node has a label of its own
pub record Numbered (labels : List ℕ) : Type 0 where
  pub long : length labels ≡ nodes
  pub own : (i : ℕ) → i < nodes → label labels i ≡ i

-- every node with the one label has the other
pub record Relabeled (from to : ℕ) (before after : List ℕ) : Type 0 where
  pub long : length after ≡ length before
  pub at : (i : ℕ) → i < length before → label after i ≡ cond (eqb (label before i) from) to (label before i)

-- a label past the segments' is that of a node to which nothing is joined: no other has it
abbrev pub Fresh : List ℕ → Type 0
Fresh labels = (node : ℕ) → node < nodes → most_segments < label labels node → label labels node ≡ node

-- a link, which is a port of a unit, joins the segment on it to the unit: told are those that were joined before
pub record Linking (ports : List ℕ) (link : ℕ) (before after : List ℕ) (r : Bool) : Type 0 where
  pub again : r ≡ true → (get_or ports link 0 ≡ 0 → ⊥) × (label before (get_or ports link 0) ≡ label before (unit_node (link / port_count)))
  pub joined : r ≡ false → ((get_or ports link 0 ≡ 0) × (after ≡ before))
      ⊎ ((get_or ports link 0 ≡ 0 → ⊥) × ((label before (get_or ports link 0) ≡ label before (unit_node (link / port_count)) → ⊥) × Relabeled (label before (unit_node (link / port_count))) (label before (get_or ports link 0)) before after))
