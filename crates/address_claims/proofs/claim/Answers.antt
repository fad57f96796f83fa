-- `address_claims::claim` meets its contract: the contest, then the drop where the claim is beaten, else the settling. Assumes nothing.
use Rattle.std.proofs.Common.{rules}
use Rattle.address_claims.proofs.Calls.{claim_beaten, claim_settled}
use Rattle.address_claims.proofs.claim.Goals as goal

pub returns-then-eq : goal.returns-then-eq
returns-then-eq c = claim_beaten c.holder.ensures c.contest-event.ensures (search rules) c.drop_others.ensures

pub returns-else-eq : goal.returns-else-eq
returns-else-eq c = claim_settled c.holder.ensures c.contest-event.ensures (search rules) c.settle.ensures
