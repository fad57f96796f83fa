-- `addresses::is_held_on` meets its contract: a place has the port that its word says, and 0 is none. Assumes nothing.
use Rattle.std.proofs.Common.{rules, ◌∙◌}
use borrow.Author.Tests.{ne_eqb}
use Rattle.addresses.proofs.Words.{on_found, on_absent}
use Rattle.addresses.proofs.is_held_on.Goals as goal

pub returns-then-table-address : goal.returns-then-table-address
returns-then-table-address c = let args = c.args in
    on_found args.table.now args.address (search rules) args.port c.if-table-address.true

pub returns-else-table-address : goal.returns-else-table-address
returns-else-table-address c = let args = c.args in
    ne_eqb _ _ c.if-table-address.false ∙ on_absent args.table.now args.address (search rules) args.port c.if-table-address.false
