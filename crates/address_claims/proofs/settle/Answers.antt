-- `address_claims::settle` meets its contract: the drop of every address, then the store. Assumes nothing.
use borrow.Author.Rules.{rules}
use Rattle.address_claims.specs.Claims.{moved_to}
use Rattle.address_claims.proofs.Calls.{gone}
use Rattle.address_claims.proofs.settle.Goals as goal

pub returns : goal.returns
unfolding moved_to
returns c = rw (← (gone c.drop_others.ensures (search rules))) c.put.ensures
