-- `address_claims::withdraw` meets its contract: a drop that keeps no address is the withdrawal. Assumes nothing.
use borrow.Author.Rules.{rules}
use Rattle.address_claims.proofs.Calls.{withdrew, held_nothing}
use Rattle.address_claims.proofs.withdraw.Goals as goal

pub returns-then-drop_others : goal.returns-then-drop_others
returns-then-drop_others c = withdrew c.drop_others.ensures (search rules) c.if-drop_others.true

pub returns : goal.returns
returns c = held_nothing c.drop_others.ensures (search rules) c.if-drop_others.false
