-- While no link joined what was joined, one path at most leads from a segment to another.
use mathlib.Core.List.{List}
use Prim.Native.Nat.{ℕ}
use Rattle.plan_shape.specs.Plan.{plan_of}
use Rattle.plan_rings.proofs.Unique.{Ringless}
use Rattle.plan_rings.proofs.has_ring.Given as goal

abbrev pub invariant-loop-link : goal.invariant-loop-link
invariant-loop-link l = (lists : List ℕ) → Ringless (plan_of l.units l.ports lists) l.link l.labels
