-- `from_segment` and `from_unit`, which call each other, meet their contracts. The measure of both is the number of unvisited units and segments: each marks one
-- before it calls the other. Assumes nothing.
use native.Mathlib.Omega.{arith}
use Prim.Native.Nat.{◌+◌, ◌*◌}
use mathlib.Core.Path.{refl, sym, ◌∙◌}
use mathlib.Core.Bool.{true≢false}
use Rattle.plan_walk.specs.Walk.{unit_place}
use Rattle.plan_walk.proofs.Marks.{falls_to}
use Rattle.plan_walk.proofs.Bits.{shifted}
use Rattle.plan_walk.proofs.Turns.{walk_marked, walk_told, unit_start, unit_past, unit_more, unit_done, segment_start, segment_past, segment_more, segment_next, segment_done}
use Rattle.plan_walk.proofs.Walk.+from_segment_from_unit.Goals.{from_segment-then-not-visited-unit, from_segment-else-not-visited-unit, from_unit-then-goes_on, from_unit-else-goes_on}
use Rattle.plan_walk.proofs.Walk.+from_segment_from_unit.Goals as goal

pub from_segment-loop-link-init : goal.from_segment-loop-link-init
from_segment-loop-link-init t c = let segment = c.args.segment in
    let N = c.requires.0.chained.first segment c.requires.1 c.requires.2 in
    let F = segment_start (walk_told c.requires.2 (walk_marked segment c.requires.0)) in
    rw (shifted c.requires.2) (segment_next F N, N.on)

pub from_segment-from_unit-all-requires : goal.from_segment-from_unit-all-requires
from_segment-from_unit-all-requires t c = let F = c.loop-link.invariant.0 in
    (falls_to c.args.visited.now c.args.segment F.still (omega arith) c.requires.3 c.decreases, (F.walk, omega arith, omega arith, c.if-not-visited-unit.true))

pub from_segment-loop-link-smaller : goal.from_segment-loop-link-smaller
from_segment-loop-link-smaller t c = let more = c.loop-link-test.true in
    let on = c.loop-link.invariant.1 more in
    let N = c.requires.0.chained.next c.loop-link.link (omega arith) more (λ z. c.requires.1 (sym on ∙ z)) in
    omega (arith, N.onward)

pub from_segment-loop-link-preserved : goal.from_segment-loop-link-preserved
from_segment-loop-link-preserved t c = let F = c.loop-link.invariant.0 in
    let more = c.loop-link-test.true in
    let on = c.loop-link.invariant.1 more in
    let N = rw on at (c.requires.0.chained.next c.loop-link.link (omega arith) more (λ z. c.requires.1 (sym on ∙ z))) in
    elim c.if-not-visited-unit.branch [ from_segment-then-not-visited-unit w ↦ rw (w.visited-is, w.all-is) (segment_next (segment_more F more (on, w.if-not-visited-unit.true) w.from_unit-all.ensures) N, N.on) | from_segment-else-not-visited-unit w ↦ rw (w.visited-is, w.all-is) (segment_next (segment_past F more (λ e. true≢false (sym w.if-not-visited-unit.false ∙ e.1))) N, N.on) ]

pub from_segment-returns : goal.from_segment-returns
from_segment-returns t c = segment_done c.args.visited.now c.args.heard (omega arith) c.requires.1 c.requires.3 (rw (shifted c.requires.2) at c.loop-link.invariant.0)

pub from_unit-loop-port-init : goal.from_unit-loop-port-init
from_unit-loop-port-init t c = unit_start (walk_marked (unit_place c.args.unit) c.requires.0)

pub from_unit-goes_on-requires : goal.from_unit-goes_on-requires
from_unit-goes_on-requires t c = let W = c.loop-port.invariant.walk in
    (omega arith, c.requires.2, omega arith, refl, W.bounded.in_range (8 * c.args.unit + c.loop-port.port) (omega arith))

pub from_unit-from_segment-all-requires : goal.from_unit-from_segment-all-requires
from_unit-from_segment-all-requires t c = let F = c.loop-port.invariant in
    let on = c.if-goes_on.ensures in
    (falls_to c.args.visited.now (unit_place c.args.unit) F.still (omega arith) c.requires.3 c.decreases, (F.walk, on.used, F.walk.bounded.in_range (8 * c.args.unit + c.loop-port.port) (omega arith), on.unvisited))

pub from_unit-loop-port-preserved : goal.from_unit-loop-port-preserved
from_unit-loop-port-preserved t c = let F = c.loop-port.invariant in
    let more = c.loop-port-test.true in
    elim c.if-goes_on.branch [ from_unit-then-goes_on w ↦ rw (w.visited-is, w.all-is) (unit_more F more w.if-goes_on.ensures w.from_segment-all.ensures) | from_unit-else-goes_on w ↦ rw (w.visited-is, w.all-is) (unit_past F more w.if-goes_on.ensures) ]

pub from_unit-returns : goal.from_unit-returns
from_unit-returns t c = unit_done c.args.visited.now (omega arith) c.requires.3 c.loop-port.invariant
