-- `plan_walk::chain_links` meets its contract: from the last link to the first. Assumes nothing.
use mathlib.Core.Path.{◌≡◌, refl}
use Prim.Native.Nat.{◌-◌}
use native.Mathlib.Omega.{arith}
use Rattle.plan_walk.specs.Walk.{chain_length}
use Rattle.plan_walk.proofs.Chain.{chain_start, chain_past, chain_more}
use Rattle.plan_walk.proofs.chain_links.Goals as goal

pub loop-link-init : goal.loop-link-init
loop-link-init c = (omega arith, chain_start chain_length refl)

pub bounds-chain-segment : goal.bounds-chain-segment
bounds-chain-segment c = omega (arith, c.requires.1 (c.loop-link.link - 1) (omega arith))

pub bounds-chain-segment-then-segment-ne0 : goal.bounds-chain-segment-then-segment-ne0
bounds-chain-segment-then-segment-ne0 c = omega (arith, c.requires.1 (c.loop-link.link - 1) (omega arith))

pub loop-link-preserved-then-segment-ne0 : goal.loop-link-preserved-then-segment-ne0
loop-link-preserved-then-segment-ne0 c = let link = c.loop-link.link in
    (omega arith, chain_more (omega arith) c.loop-link.invariant.1 (omega arith) (omega arith) refl c.if-segment-ne0.true (c.requires.1 (link - 1) (omega arith)))

pub loop-link-preserved : goal.loop-link-preserved
loop-link-preserved c = (omega arith, chain_past (omega arith) c.loop-link.invariant.1 c.if-segment-ne0.false)

pub returns : goal.returns
returns c = let e : c.loop-link.link ≡ 0 = omega arith in
    rw e at c.loop-link.invariant.1
