-- `addresses::is_held_by` meets its contract: a NAME found beside a port holds the place. Assumes nothing.
use Rattle.std.proofs.Common.{rules, ◌∙◌}
use borrow.Author.Tests.{ne_eqb}
use Rattle.addresses.proofs.Words.{by_found, by_absent}
use Rattle.addresses.proofs.is_held_by.Goals as goal

pub returns-then-table-at : goal.returns-then-table-at
returns-then-table-at c = let args = c.args in
    by_found args.table.now args.address (search rules) args.name c.if-table-at.true

pub returns-else-table-at : goal.returns-else-table-at
returns-else-table-at c = let args = c.args in
    ne_eqb _ _ c.if-table-at.false ∙ by_absent args.table.now args.address (search rules) args.name c.if-table-at.false
