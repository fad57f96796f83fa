-- `read_counts` meets its contract. Assumes nothing.
use Rattle.witness.proofs.Steps.{counts_step}
use borrow.Author.Rules.{rules}
use Rattle.witness.proofs.read_counts.Goals as goal

pub returns : goal.returns
returns c = counts_step (search rules) c.counts-r.ensures c.write_counts.ensures
