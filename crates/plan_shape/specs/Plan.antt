-- docs/RULES.md, "Plans": a plan of a machine, what it is refused with, and which segments hear a PGN.
-- Segments are counted from 1, 0 being none, as the plan has them. Units and their ports are counted from 0, as they stand in it.
-- Assumes nothing.
use Rattle.std.specs.Prelude.{ℕ, zero, suc, ◌+◌, ◌-◌, ◌*◌, ◌^◌, ◌≤◌, ◌<◌, ◌≡◌, Bool, true, ◌&&◌, ◌||◌, ◌⊎◌, ◌↔◌, List, [], ◌∷◌, get_or, leb, eqb}
use Rattle.identifier.specs.Identifier.{is_pgn}
use Rattle.storage.specs.Blocks.{block_at}
use Rattle.entries.specs.Entries.{every}
use Rattle.pgn_list.specs.PgnList.{list_size}
use Rattle.filter.specs.Filter.{Filter, filter_of, permitted, mode_place, count_place, names_place}
use Rattle.unit.specs.Model.{pair_at}
use Rattle.unit.specs.Ports.{bit_at}

-- ---- the plan
-- "up to 16 segments and 16 units", "each of eight ports"
abbrev pub most_segments : ℕ
most_segments = 16

abbrev pub most_units : ℕ
most_units = 16

abbrev pub port_count : ℕ
port_count = 8

-- the directed pairs of a unit's ports
abbrev pub pairs_of_unit : ℕ
pairs_of_unit = 56

-- the words of a pair: the front of a record's block, mode, count and list. A plan has no NAME entries (proofs/Names.antt)
abbrev pub plan_block_size : ℕ
plan_block_size = names_place

-- "each unit with its lists and the segment on each of eight ports, 0 if unused": eight words for each unit; a pair's block for each of its 56 pairs.
-- How many segments there are is a number beside it, on which no path depends.
pub record Plan : Type 0 where
  pub units : ℕ
  pub ports : List ℕ
  pub lists : List ℕ

abbrev pub plan_of : ℕ → List ℕ → List ℕ → Plan
plan_of units ports lists = record { units = units; ports = ports; lists = lists }

-- the lengths of the two
abbrev pub ports_length : ℕ
ports_length = port_count * most_units

abbrev pub lists_length : ℕ
lists_length = plan_block_size * (pairs_of_unit * most_units)

-- the segment on a port of a unit
abbrev pub segment_at : Plan → ℕ → ℕ → ℕ
segment_at plan unit port = get_or plan.ports (port_count * unit + port) 0

-- the words of a pair, by its place, and the filter of a unit's pair: a unit's pairs stand in order of From, then To
abbrev pub block_of : List ℕ → ℕ → List ℕ
block_of lists place = block_at 0 plan_block_size place lists

unfoldable pub pair_of : List ℕ → ℕ → ℕ → ℕ → Filter
pair_of lists unit from to = filter_of (block_of lists (pairs_of_unit * unit + pair_at port_count from to))

-- ---- paths
-- a unit on a path: it is entered at one port and left at another
pub record Crossing : Type 0 where
  pub unit : ℕ
  pub enter : ℕ
  pub leave : ℕ

-- "from a segment to its units and from a unit to its further segments": a unit of the plan has the one segment on the port where it is entered, and the other on another port
pub record Joins (plan : Plan) (s : ℕ) (c : Crossing) (t : ℕ) : Type 0 where
  pub planned : c.unit < plan.units
  pub entered : c.enter < port_count
  pub left : c.leave < port_count
  pub further : c.enter ≡ c.leave → ⊥
  pub from : segment_at plan c.unit c.enter ≡ s
  pub to : segment_at plan c.unit c.leave ≡ t
  pub segment : s ≡ 0 → ⊥
  pub used : t ≡ 0 → ⊥

-- the segment on the port where the unit is left
abbrev pub onward : Plan → Crossing → ℕ
onward plan c = segment_at plan c.unit c.leave

-- the crossings lead from one segment to another
unfoldable pub Leads : Plan → ℕ → List Crossing → ℕ → Type 0
Leads plan s [] t = s ≡ t
Leads plan s (c ∷ cs) t = Joins plan s c (onward plan c) × Leads plan (onward plan c) cs t

-- a unit is not among those crossed
unfoldable pub Unused : ℕ → List Crossing → Type 0
Unused unit [] = Unit
Unused unit (c ∷ cs) = (c.unit ≡ unit → ⊥) × Unused unit cs

-- "no unit twice"
unfoldable pub NoUnitTwice : List Crossing → Type 0
NoUnitTwice [] = Unit
NoUnitTwice (c ∷ cs) = Unused c.unit cs × NoUnitTwice cs

-- "each unit on it permits": the pair of the ports where it is entered and left; the permanent PGNs cross every pair
abbrev pub Permits : Plan → ℕ → Crossing → Type 0
Permits plan pgn c = permitted (pair_of plan.lists c.unit c.enter c.leave) pgn ≡ true

unfoldable pub EachPermits : Plan → ℕ → List Crossing → Type 0
EachPermits plan pgn [] = Unit
EachPermits plan pgn (c ∷ cs) = Permits plan pgn c × EachPermits plan pgn cs

-- a path from one segment to another
pub record Path (plan : Plan) (s : ℕ) (cs : List Crossing) (t : ℕ) : Type 0 where
  pub leads : Leads plan s cs t
  pub once : NoUnitTwice cs

-- ---- "tell which segments hear a PGN sent on a given one": "A segment hears it exactly when it is the first one, or a path, no unit twice, leads to it and each unit on it permits."
abbrev pub Hears : Plan → ℕ → ℕ → ℕ → Type 0
Hears plan first pgn segment = (segment ≡ first) ⊎ ((cs : List Crossing) × (Path plan first cs segment × EachPermits plan pgn cs))

-- the answer: bit s - 1 for segment s
pub record Hearing (plan : Plan) (first pgn r : ℕ) : Type 0 where
  pub told : (segment : ℕ) → 1 ≤ segment → segment ≤ most_segments → (bit_at r (segment - 1) ≡ true) ↔ Hears plan first pgn segment
  pub small : r < 2 ^ most_segments

-- ---- 28: "a number outside the plan or its range, or one asked or listed that is no PGN"
-- whether a test holds of each number below n
unfoldable pub below : (ℕ → Bool) → ℕ → Bool
below test zero = true
below test (suc n) = below test n && test n

-- a pair's words: mode 0 to 2; of a pair that is not cleared, count at most 32 and every listed one a PGN. A cleared pair has no list, whatever its count says
unfoldable pub pair_in_range : List ℕ → Bool
pair_in_range words =
    leb (get_or words mode_place 0) 2
    && (eqb (get_or words mode_place 0) 0
    || (leb (get_or words count_place 0) list_size && every is_pgn (filter_of words).entries))

-- the numbers beside the ports and lists
unfoldable pub numbers_in_range : ℕ → ℕ → ℕ → ℕ → Bool
numbers_in_range segments units first pgn = leb segments most_segments && (leb units most_units && (leb 1 first && (leb first segments && is_pgn pgn)))

-- and those of the units in use: what lies past them is not judged
unfoldable pub in_range : ℕ → Plan → ℕ → ℕ → Bool
in_range segments plan first pgn =
    numbers_in_range segments plan.units first pgn
    && (below (λ i. leb (get_or plan.ports i 0) segments) (port_count * plan.units)
    && below (λ i. pair_in_range (block_of plan.lists i)) (pairs_of_unit * plan.units))

-- ---- 29: "two paths between some segments or two ports of a unit on one"
pub record TwoPaths (plan : Plan) : Type 0 where
  pub from : ℕ
  pub to : ℕ
  pub one : List Crossing
  pub other : List Crossing
  pub path : Path plan from one to
  pub path2 : Path plan from other to
  pub different : one ≡ other → ⊥

pub record TwoPorts (plan : Plan) : Type 0 where
  pub unit : ℕ
  pub port : ℕ
  pub port2 : ℕ
  pub planned : unit < plan.units
  pub in_unit : port < port_count
  pub in_unit2 : port2 < port_count
  pub different : port ≡ port2 → ⊥
  pub used : segment_at plan unit port ≡ 0 → ⊥
  pub same : segment_at plan unit port ≡ segment_at plan unit port2

abbrev pub Ringed : Plan → Type 0
Ringed plan = TwoPaths plan ⊎ TwoPorts plan
