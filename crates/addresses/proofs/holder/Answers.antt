-- `addresses::holder` meets its contract: the two words read are the place. Assumes nothing.
use borrow.Author.Rules.{rules}
use Rattle.addresses.proofs.Words.{free_read, held_read}
use Rattle.addresses.proofs.holder.Goals as goal

pub returns-then-port-eq0 : goal.returns-then-port-eq0
returns-then-port-eq0 c = let args = c.args in
    free_read args.table.now args.address (search rules) c.if-port-eq0.true

pub returns : goal.returns
returns c = let args = c.args in
    held_read args.table.now args.address (search rules) c.if-port-eq0.false
