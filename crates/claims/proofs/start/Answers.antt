-- `claims::start` meets its contract: the address is held under a lower NAME, or it is claimed. Assumes nothing.
use Prim.Native.Nat.{◌<◌}
use native.Mathlib.Omega.{arith}
use Rattle.unit.proofs.Own.{moved_count}
use Rattle.claims.proofs.Acts.{start_lost, start_claiming}
use Rattle.claims.proofs.start.Goals as goal

pub is_held_under-requires : goal.is_held_under-requires
is_held_under-requires c = (omega arith, rw (c.read_unit-unit.ensures 4) (c.requires.1 4))

pub store_unit-requires : goal.store_unit-requires
store_unit-requires c = let m = moved_count 4 c.args.words.now (c.read_unit-unit.ensures 4) c.moved-lost.ensures in
    (omega arith, m.0, m.1)

pub returns-then-is_held_under : goal.returns-then-is_held_under
returns-then-is_held_under c = λ ports. start_lost ports c.args.words.now c.read_unit-unit.result (c.read_unit-unit.ensures ports) c.is_held_under.result (c.is_held_under.ensures ports) c.if-is_held_under.true c.moved-lost.ensures (c.store_unit.ensures ports) c.cannot_claim_frame.ensures

pub release-requires : goal.release-requires
release-requires c = (omega arith, rw (c.read_unit-unit.ensures 4) (c.requires.1 4))

pub overflow_cast-preferred : goal.overflow_cast-preferred
overflow_cast-preferred c = let small : c.read_unit-unit.result.preferred < 254 = rw (c.read_unit-unit.ensures 4) (c.requires.1 4) in
    omega (arith, small)

pub store_unit-requires-2 : goal.store_unit-requires-2
store_unit-requires-2 c = let m = moved_count 4 c.args.words.now (c.read_unit-unit.ensures 4) c.moved-claiming.ensures in
    (omega arith, m.0, m.1)

pub returns : goal.returns
returns c = λ ports. start_claiming ports c.args.words.now c.read_unit-unit.result (c.read_unit-unit.ensures ports) c.is_held_under.result (c.is_held_under.ensures ports) c.if-is_held_under.false (c.release.ensures ports) c.moved-claiming.ensures (c.store_unit-2.ensures ports) c.claim_frame.ensures
