-- `plan_walk::chain_links` meets its contract: from the last link to the first. Assumes nothing.
use Prim.Native.Nat.{◌≤◌}
use Rattle.plan_walk.specs.Walk.{Chained}
use Rattle.plan_walk.proofs.chain_links.Given as goal

abbrev pub invariant-loop-link : goal.invariant-loop-link
invariant-loop-link l = (l.link ≤ l.end) × Chained l.ports l.end l.link l.chain
