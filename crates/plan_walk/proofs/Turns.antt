-- The two loops of the walk: where each stands after some turns, one turn more, and what it has reached at its end. Assumes nothing.
use mathlib.Core.Path.{◌≡◌, refl, sym, ap, ◌∙◌}
use mathlib.Core.Logic.{◌⊎◌, inl, inr, ⊎_elim, ◌↔◌}
use mathlib.Core.Bool.{Bool, true, false}
use mathlib.Core.List.{List, [], ◌∷◌}
use Prim.Native.Nat.{ℕ, ◌+◌, ◌*◌, ◌/◌, ◌%◌, ◌^◌, ◌≤◌, ◌<◌}
use native.Mathlib.Omega.{arith}
use lib.Bits.{bit_or}
use lib.ListN.{length, set, length-set}
use Rattle.plan_shape.specs.Plan.{Plan, Crossing, onward, segment_at, most_segments, port_count}
use Rattle.plan_walk.specs.Walk.{Unvisited, unit_place, marked, crossing, Way, Reached, ReachedFrom, GoesOn, Entering, NextOn, Told, Walkable, Walked}
use Rattle.plan_walk.proofs.Marks.{unmarked}
use Rattle.plan_walk.proofs.Bits.{or_small}
use Rattle.plan_walk.proofs.Told.{Some, some_more, some_same, some_past, told_none, told_mark, told_as, told_then}

way_head : (plan : Plan) (pgn : ℕ) (marks : List Bool) (s : ℕ) (cs : List Crossing) (t : ℕ) → Way plan pgn marks s cs t → Unvisited marks s
unfolding Way
way_head plan pgn marks s [] t w = w.0
way_head plan pgn marks s (c ∷ cs) t w = w.0

-- ---- from a unit
-- what is reached by one of its ports
abbrev ByPort : Plan → ℕ → List Bool → ℕ → ℕ → ℕ → ℕ → Type 0
ByPort plan pgn marks unit enter t port = GoesOn plan pgn marks unit enter port × Reached plan pgn marks (segment_at plan unit port) t

-- after the ports below n, by the marks where the loop begins
pub record FromUnit (plan : Plan) (pgn : ℕ) (chain : List ℕ) (marks₀ : List Bool) (heard₀ unit enter : ℕ) (marks : List Bool) (heard n : ℕ) : Type 0 where
  pub walk : Walkable plan chain marks heard
  pub within : n ≤ port_count
  pub still : marks ≡ marks₀
  pub told : Told heard₀ heard (λ t. Some (ByPort plan pgn marks₀ unit enter t) n)

pub walk_marked : {plan : Plan} {chain : List ℕ} {marks : List Bool} {heard : ℕ} (i : ℕ) → Walkable plan chain marks heard → Walkable plan chain (marked marks i) heard
walk_marked {marks = marks} i W = record { bounded = W.bounded; chained = W.chained; long_marks = length-set marks i true ∙ W.long_marks; small = W.small }

pub walk_told : {plan : Plan} {chain : List ℕ} {marks : List Bool} {heard s : ℕ} → s ≤ most_segments → Walkable plan chain marks heard → Walkable plan chain marks (bit_or heard (2 ^ s))
walk_told h W = record { bounded = W.bounded; chained = W.chained; long_marks = W.long_marks; small = or_small W.small h }

walk_on : {plan : Plan} {chain : List ℕ} {marks marks' : List Bool} {heard heard' : ℕ} → Walkable plan chain marks heard → marks' ≡ marks → heard' < 2 ^ (most_segments + 1) → Walkable plan chain marks' heard'
walk_on W e l = record { bounded = W.bounded; chained = W.chained; long_marks = ap length e ∙ W.long_marks; small = l }

nothing_below : {P : ℕ → Type 0} → Some P 0 → ⊥
nothing_below (i, (l, p)) = omega arith

module _ {plan : Plan} {pgn : ℕ} {chain : List ℕ} {marks₀ : List Bool} {heard₀ unit enter : ℕ} where
  pub unit_start : Walkable plan chain marks₀ heard₀ → FromUnit plan pgn chain marks₀ heard₀ unit enter marks₀ heard₀ 0
  unit_start W = record { walk = W; within = omega arith; still = refl; told = told_none (λ t. nothing_below) }

  module _ {marks : List Bool} {heard n : ℕ} (F : FromUnit plan pgn chain marks₀ heard₀ unit enter marks heard n) (more : n < port_count) where
    -- nothing by this port
    pub unit_past : (GoesOn plan pgn marks unit enter n → ⊥) → FromUnit plan pgn chain marks₀ heard₀ unit enter marks heard (n + 1)
    unit_past none = record {
      walk = F.walk;
      within = omega arith;
      still = F.still;
      told = told_as (λ t. some_same {P = ByPort plan pgn marks₀ unit enter t} (λ p. (rw F.still at none) p.0)) F.told;
    }

    -- a walk from the segment on this port
    pub unit_more : {marks' : List Bool} {heard' : ℕ} → GoesOn plan pgn marks unit enter n → Walked (Reached plan pgn marks (segment_at plan unit n)) marks heard marks' heard' → FromUnit plan pgn chain marks₀ heard₀ unit enter marks' heard' (n + 1)
    unit_more on W = record {
      walk = walk_on F.walk W.marks W.small;
      within = omega arith;
      still = W.marks ∙ F.still;
      told = told_as (λ t. some_more {P = ByPort plan pgn marks₀ unit enter t}) (told_then F.told (told_as by_port W.heard));
    }
      where
        by_port : (t : ℕ) → Reached plan pgn marks (segment_at plan unit n) t ↔ ByPort plan pgn marks₀ unit enter t n
        by_port t = rw (← F.still) ((λ w. (on, w)), (λ p. p.1))

pub unit_done : {plan : Plan} {chain : List ℕ} {pgn heard₀ unit enter : ℕ} (marks₀ : List Bool) {marks : List Bool} {heard n : ℕ} → port_count ≤ n → Unvisited marks₀ (unit_place unit) → FromUnit plan pgn chain (marked marks₀ (unit_place unit)) heard₀ unit enter marks heard n
    → Walked (ReachedFrom plan pgn marks₀ unit enter) marks₀ heard₀ (set marks (unit_place unit) false) heard
unit_done {unit = unit} marks₀ {n = n} h u F =
    let e : n ≡ port_count = omega (arith, F.within) in
    record { marks = rw F.still (unmarked marks₀ (unit_place unit) u); heard = rw e at F.told; small = F.walk.small }

-- ---- from a segment
-- what is reached by one of the links
abbrev ByLink : Plan → ℕ → List Bool → ℕ → ℕ → ℕ → Type 0
ByLink plan pgn marks s t link = Entering plan.ports marks s link × ReachedFrom plan pgn marks (link / port_count) (link % port_count) t

-- after the links below n, by the marks where the loop begins
pub record FromSegment (plan : Plan) (pgn : ℕ) (chain : List ℕ) (marks₀ : List Bool) (heard₀ s : ℕ) (marks : List Bool) (heard n : ℕ) : Type 0 where
  pub walk : Walkable plan chain marks heard
  pub within : n ≤ port_count * plan.units
  pub still : marks ≡ marks₀
  pub told : Told heard₀ heard (λ t. Some (ByLink plan pgn marks₀ s t) n)

-- the links lead where the crossings do
module _ (plan : Plan) (pgn : ℕ) (marks : List Bool) (s : ℕ) (here : Unvisited marks s) (segment : s ≡ 0 → ⊥) where
  to_way : (t link : ℕ) → link < port_count * plan.units → ByLink plan pgn (marked marks s) s t link → Reached plan pgn marks s t
  unfolding Way
  to_way t link l ((on, free), (port, (p, (G, (cs, W))))) =
      let e : port_count * (link / port_count) + link % port_count ≡ link = omega arith in (
        crossing (link / port_count) (link % port_count) port ∷ cs,
        (
          here,
          (
            record {
              planned = omega arith;
              entered = omega arith;
              left = p;
              further = G.further;
              from = rw e on;
              to = refl;
              segment = segment;
              used = G.used;
            },
            (free, (G.permits, W)),
          ),
        ),
      )

  from_way : (t : ℕ) (cs : List Crossing) → Way plan pgn marks s cs t → (t ≡ s) ⊎ Some (ByLink plan pgn (marked marks s) s t) (port_count * plan.units)
  unfolding Way
  from_way t [] (u, e) = inl (sym e)
  from_way t (c ∷ cs) (u, (joins, (free, (permits, W)))) =
      let in-plan = joins.planned in
      let in-unit = joins.entered in
      let unit_is : (port_count * c.unit + c.enter) / port_count ≡ c.unit = omega arith in
      let port_is : (port_count * c.unit + c.enter) % port_count ≡ c.enter = omega arith in
      inr (
        port_count * c.unit + c.enter,
        (
          omega arith,
          rw (unit_is, port_is) (
            (joins.from, free),
            (
              c.leave,
              (
                joins.left,
                (
                  record {
                    further = joins.further;
                    used = joins.used;
                    unvisited = way_head plan pgn (marked (marked marks s) (unit_place c.unit)) (onward plan c) cs t W;
                    permits = permits;
                  },
                  (cs, W),
                ),
              ),
            ),
          ),
        ),
      )

  reached_is : (t : ℕ) → ((t ≡ s) ⊎ Some (ByLink plan pgn (marked marks s) s t) (port_count * plan.units)) ↔ Reached plan pgn marks s t
  unfolding Way
  reached_is t = (⊎_elim (λ e. ([], (here, sym e))) (λ b. to_way t b.0 b.1.0 b.1.1), (λ w. from_way t w.0 w.1))

module _ {plan : Plan} {pgn : ℕ} {chain : List ℕ} {marks₀ : List Bool} {heard₀ s : ℕ} where
  pub segment_start : Walkable plan chain marks₀ heard₀ → FromSegment plan pgn chain marks₀ heard₀ s marks₀ heard₀ 0
  segment_start W = record { walk = W; within = omega arith; still = refl; told = told_none (λ t. nothing_below) }

  module _ {marks : List Bool} {heard n : ℕ} (F : FromSegment plan pgn chain marks₀ heard₀ s marks heard n) where
    pub segment_past : n < port_count * plan.units → (Entering plan.ports marks s n → ⊥) → FromSegment plan pgn chain marks₀ heard₀ s marks heard (n + 1)
    segment_past more none = record {
      walk = F.walk;
      within = omega arith;
      still = F.still;
      told = told_as (λ t. some_same {P = ByLink plan pgn marks₀ s t} (λ b. (rw F.still at none) b.0)) F.told;
    }

    pub segment_more : {marks' : List Bool} {heard' : ℕ} → n < port_count * plan.units → Entering plan.ports marks s n → Walked (ReachedFrom plan pgn marks (n / port_count) (n % port_count)) marks heard marks' heard' → FromSegment plan pgn chain marks₀ heard₀ s marks' heard' (n + 1)
    segment_more more on W = record {
      walk = walk_on F.walk W.marks W.small;
      within = omega arith;
      still = W.marks ∙ F.still;
      told = told_as (λ t. some_more {P = ByLink plan pgn marks₀ s t}) (told_then F.told (told_as by_link (rw F.still at W.heard)));
    }
      where
        on₀ : Entering plan.ports marks₀ s n
        on₀ = rw F.still at on

        by_link : (t : ℕ) → ReachedFrom plan pgn marks₀ (n / port_count) (n % port_count) t ↔ ByLink plan pgn marks₀ s t n
        by_link t = ((λ r. (on₀, r)), (λ b. b.1))

    -- to the next link of the segment
    pub segment_next : {r : ℕ} → NextOn plan.ports (port_count * plan.units) s n r → FromSegment plan pgn chain marks₀ heard₀ s marks heard r
    segment_next N = record {
      walk = F.walk;
      within = N.within;
      still = F.still;
      told = told_as (λ t. some_past {P = ByLink plan pgn marks₀ s t} N.onward (λ i a b p. N.others i a b p.0.0)) F.told;
    }

pub segment_done : {plan : Plan} {chain : List ℕ} {pgn s : ℕ} (marks₀ : List Bool) (heard₀ : ℕ) {marks : List Bool} {heard n : ℕ} → port_count * plan.units ≤ n → (s ≡ 0 → ⊥) → Unvisited marks₀ s → FromSegment plan pgn chain (marked marks₀ s) (bit_or heard₀ (2 ^ s)) s marks heard n
    → Walked (Reached plan pgn marks₀ s) marks₀ heard₀ (set marks s false) heard
segment_done {plan} {pgn = pgn} {s = s} marks₀ heard₀ {n = n} h ne u F =
    let e : n ≡ port_count * plan.units = omega (arith, F.within) in
    record {
      marks = rw F.still (unmarked marks₀ s u);
      heard = told_as (reached_is plan pgn marks₀ s u ne) (told_then (told_mark heard₀ s) (rw e at F.told));
      small = F.walk.small;
    }
