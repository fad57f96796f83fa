-- `from_segment` and `from_unit`, which call each other, meet their contracts. The measure of both is the number of unvisited units and segments: each marks one
-- before it calls the other. Assumes nothing.
use Prim.Native.Nat.{◌-◌, ◌<◌}
use mathlib.Core.Path.{◌≡◌}
use lib.ListN.{get_or}
use Rattle.plan_walk.specs.Walk.{plan_in, unvisited}
use Rattle.plan_walk.proofs.Turns.{FromSegment, FromUnit}
use Rattle.plan_walk.proofs.Walk.+from_segment_from_unit.Given as goal

abbrev pub decreases-from_segment : goal.decreases-from_segment
decreases-from_segment l = unvisited l.visited.now

abbrev pub decreases-from_unit : goal.decreases-from_unit
decreases-from_unit l = unvisited l.visited.now

abbrev pub invariant-from_segment-loop-link : goal.invariant-from_segment-loop-link
invariant-from_segment-loop-link l =
    FromSegment (plan_in l.self) l.self.pgn l.self.chain.now l.initial.visited l.initial.all l.segment l.visited l.all l.link × (l.link < l.end → get_or l.self.ports.now l.link 0 ≡ l.segment)

abbrev pub decreases-from_segment-loop-link : goal.decreases-from_segment-loop-link
decreases-from_segment-loop-link l = l.end - l.link

abbrev pub invariant-from_unit-loop-port : goal.invariant-from_unit-loop-port
invariant-from_unit-loop-port l = FromUnit (plan_in l.self) l.self.pgn l.self.chain.now l.initial.visited l.initial.all l.unit l.entered l.visited l.all l.port
