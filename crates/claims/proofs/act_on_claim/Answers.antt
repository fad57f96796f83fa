-- `claims::act_on_claim` meets its contract, by the way that the code went. Assumes nothing.
use Rattle.claims.proofs.Acts.{own_claim, withdrawal, contesting, claiming}
use Rattle.claims.proofs.act_on_claim.Goals as goal

pub returns-then-name-unit : goal.returns-then-name-unit
returns-then-name-unit c = let args = c.args in
    λ ports. own_claim ports args.words.now c.read_unit-unit.result (c.read_unit-unit.ensures ports) args.port args.f c.alone.result c.if-name-unit.true c.alone.ensures

pub returns-then-source-eq-NO_ADDRESS : goal.returns-then-source-eq-NO_ADDRESS
returns-then-source-eq-NO_ADDRESS c = let args = c.args in
    λ ports. withdrawal ports args.words.now c.read_unit-unit.result (c.read_unit-unit.ensures ports) args.port args.f c.alone-then-source-eq-NO_ADDRESS.result c.if-name-unit.false c.sa-source.result c.sa-source.ensures c.if-source-eq-NO_ADDRESS.true (c.withdraw.ensures ports) c.alone-then-source-eq-NO_ADDRESS.ensures

pub returns-then-is_own : goal.returns-then-is_own
returns-then-is_own c = let args = c.args in
    λ ports. contesting ports args.words.now c.read_unit-unit.result (c.read_unit-unit.ensures ports) args.port args.f c.contest.result c.if-name-unit.false c.sa-source.result c.sa-source.ensures c.if-source-eq-NO_ADDRESS.false c.is_own.result c.is_own.ensures c.if-is_own.true (c.contest.ensures ports)

pub returns : goal.returns
returns c = let args = c.args in
    λ ports. claiming ports args.words.now c.read_unit-unit.result (c.read_unit-unit.ensures ports) args.port args.f c.alone-2.result c.if-name-unit.false c.sa-source.result c.sa-source.ensures c.if-source-eq-NO_ADDRESS.false c.is_own.result c.is_own.ensures c.if-is_own.false (c.claim.ensures ports) c.alone-2.ensures
