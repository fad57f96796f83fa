-- `take` meets its contract. Assumes nothing.
use Rattle.witness.proofs.Steps.{take_step}
use borrow.Author.Rules.{rules}
use Rattle.witness.proofs.take.Goals as goal

pub returns : goal.returns
returns c = take_step (search rules) c.take-r.ensures c.write_take.ensures
