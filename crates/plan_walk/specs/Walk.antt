-- The walk of a plan. What is visited is marked: place s for segment s, places 17 and up for the units.
-- Which links a segment has; what a walk from a segment, and on from a unit, reaches of what is not marked; and the contracts of the two.
-- Assumes nothing.
use Rattle.std.specs.Prelude.{ℕ, suc, ◌+◌, ◌*◌, ◌/◌, ◌^◌, ◌≤◌, ◌<◌, ◌≡◌, Bool, true, false, ◌⊎◌, ◌↔◌, List, [], ◌∷◌, length, get_or, set}
use Rattle.unit.specs.Ports.{bit_at}
use Rattle.plan_shape.specs.Plan.{Plan, plan_of, Crossing, Joins, Permits, onward, segment_at, most_segments, most_units, port_count, ports_length, lists_length}
use Rattle.plan_walk.specs.declared.Walk.{Walk}

-- the plan that a walk goes by
abbrev pub plan_in : Walk → Plan
plan_in walk = plan_of walk.units walk.ports.now walk.lists.now

abbrev pub unit_place : ℕ → ℕ
unit_place unit = most_segments + 1 + unit

abbrev pub marks_length : ℕ
marks_length = most_segments + 1 + most_units

abbrev pub Unvisited : List Bool → ℕ → Type 0
Unvisited marks place = get_or marks place false ≡ false

abbrev pub marked : List Bool → ℕ → List Bool
marked marks place = set marks place true

-- "the number of unvisited units and segments"
unfoldable pub unvisited : List Bool → ℕ
unvisited [] = 0
unvisited (false ∷ marks) = suc (unvisited marks)
unvisited (true ∷ marks) = unvisited marks

-- a link, which is a port of a unit, leads from a segment to a unit that is not visited
abbrev pub Entering : List ℕ → List Bool → ℕ → ℕ → Type 0
Entering ports marks segment link = (get_or ports link 0 ≡ segment) × Unvisited marks (unit_place (link / port_count))

-- the next link of a segment, from one on and below the end; the end where there is none
pub record NextOn (ports : List ℕ) (end segment from link : ℕ) : Type 0 where
  pub onward : from ≤ link
  pub within : link ≤ end
  pub others : (i : ℕ) → from ≤ i → i < link → get_or ports i 0 ≡ segment → ⊥
  pub on : link < end → get_or ports link 0 ≡ segment

-- the chain of the links from one on: place s has the first of segment s, places 17 and up have for each link the next one of its segment
abbrev pub link_place : ℕ → ℕ
link_place link = most_segments + 1 + link

abbrev pub chain_length : ℕ
chain_length = most_segments + 1 + ports_length

pub record Chained (ports : List ℕ) (end from : ℕ) (chain : List ℕ) : Type 0 where
  pub long : length chain ≡ chain_length
  pub first : (segment : ℕ) → (segment ≡ 0 → ⊥) → segment ≤ most_segments → NextOn ports end segment from (get_or chain segment 0)
  pub next : (link : ℕ) → from ≤ link → link < end → (get_or ports link 0 ≡ 0 → ⊥) → NextOn ports end (get_or ports link 0) (link + 1) (get_or chain (link_place link) 0)

abbrev pub crossing : ℕ → ℕ → ℕ → Crossing
crossing unit enter leave = record { unit = unit; enter = enter; leave = leave }

-- crossings that lead from a segment to another, each of which permits; what they enter is unvisited, and is marked on the way
unfoldable pub Way : Plan → ℕ → List Bool → ℕ → List Crossing → ℕ → Type 0
Way plan pgn marks s [] t = Unvisited marks s × (s ≡ t)
Way plan pgn marks s (c ∷ cs) t =
    Unvisited marks s
    × (Joins plan s c (onward plan c)
    × (Unvisited (marked marks s) (unit_place c.unit)
    × (Permits plan pgn c
    × Way plan pgn (marked (marked marks s) (unit_place c.unit)) (onward plan c) cs t)))

-- what is reached from a segment
abbrev pub Reached : Plan → ℕ → List Bool → ℕ → ℕ → Type 0
Reached plan pgn marks s t = (cs : List Crossing) × Way plan pgn marks s cs t

-- a unit that was entered at a port goes on by another
pub record GoesOn (plan : Plan) (pgn : ℕ) (marks : List Bool) (unit enter port : ℕ) : Type 0 where
  pub further : enter ≡ port → ⊥
  pub used : segment_at plan unit port ≡ 0 → ⊥
  pub unvisited : Unvisited marks (segment_at plan unit port)
  pub permits : Permits plan pgn (crossing unit enter port)

-- what is reached from a unit
abbrev pub ReachedFrom : Plan → ℕ → List Bool → ℕ → ℕ → ℕ → Type 0
ReachedFrom plan pgn marks unit enter t =
    (port : ℕ) × ((port < port_count) × (GoesOn plan pgn (marked marks (unit_place unit)) unit enter port × Reached plan pgn (marked marks (unit_place unit)) (segment_at plan unit port) t))

-- what is heard is a number: bit s for segment s
abbrev pub Heard : ℕ → ℕ → Type 0
Heard set segment = bit_at set segment ≡ true

-- heard after is heard before, or reached
pub record Told (before after : ℕ) (reached : ℕ → Type 0) : Type 0 where
  pub at : (t : ℕ) → Heard after t ↔ (Heard before t ⊎ reached t)

-- a plan whose numbers are in range, as far as a walk asks
pub record Bounded (plan : Plan) : Type 0 where
  pub ports : length plan.ports ≡ ports_length
  pub lists : length plan.lists ≡ lists_length
  pub few : plan.units ≤ most_units
  pub in_range : (i : ℕ) → i < port_count * plan.units → get_or plan.ports i 0 ≤ most_segments

-- what the two functions are given
pub record Walkable (plan : Plan) (chain : List ℕ) (marks : List Bool) (heard : ℕ) : Type 0 where
  pub bounded : Bounded plan
  pub chained : Chained plan.ports (port_count * plan.units) 0 chain
  pub long_marks : length marks ≡ marks_length
  pub small : heard < 2 ^ (most_segments + 1)

-- and what they do: the marks are as they were
pub record Walked (reached : ℕ → Type 0) (marksBefore : List Bool) (heardBefore : ℕ) (marksAfter : List Bool) (heardAfter : ℕ) : Type 0 where
  pub marks : marksAfter ≡ marksBefore
  pub heard : Told heardBefore heardAfter reached
  pub small : heardAfter < 2 ^ (most_segments + 1)
