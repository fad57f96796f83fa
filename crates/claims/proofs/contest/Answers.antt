-- `claims::contest` meets its contract: defended or displaced. Assumes nothing.
use native.Mathlib.Omega.{arith}
use Rattle.unit.proofs.Own.{moved_count}
use Rattle.claims.proofs.Acts.{defended, displaced}
use Rattle.claims.proofs.contest.Goals as goal

pub returns-then-unit-name : goal.returns-then-unit-name
returns-then-unit-name c = let args = c.args in
    λ ports. defended ports args.words.now c.read_unit-unit.result (c.read_unit-unit.ensures ports) args.port args.address args.name c.if-unit-name.true (c.drop_others.ensures ports) c.claim_frame.ensures

pub store_unit-requires : goal.store_unit-requires
store_unit-requires c = let m = moved_count 4 c.args.words.now (c.read_unit-unit.ensures 4) c.moved-displaced.ensures in
    (omega arith, m.0, m.1)

pub returns : goal.returns
returns c = let args = c.args in
    λ ports. displaced ports args.words.now c.read_unit-unit.result (c.read_unit-unit.ensures ports) args.port args.address args.name c.if-unit-name.false (c.settle.ensures ports) c.moved-displaced.ensures (c.store_unit.ensures ports) c.cannot_claim_frame.ensures
