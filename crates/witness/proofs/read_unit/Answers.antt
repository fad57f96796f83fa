-- `read_unit` meets its contract. Assumes nothing.
use Rattle.witness.proofs.Steps.{unit_step}
use borrow.Author.Rules.{rules}
use Rattle.witness.proofs.read_unit.Goals as goal

pub returns : goal.returns
returns c = unit_step (search rules) c.unit-r.ensures c.write_unit.ensures
