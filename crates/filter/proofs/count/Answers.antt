-- `filter::count` meets its contract: a cleared pair holds none, another the count, cut at the list's size. Assumes nothing.
use Rattle.filter.proofs.Meaning.{count_cleared, count_listed}
use Rattle.filter.proofs.count.Goals as goal

pub returns-then-block-eq-CLEARED : goal.returns-then-block-eq-CLEARED
returns-then-block-eq-CLEARED c = count_cleared c.requires c.if-block-eq-CLEARED.true

pub returns : goal.returns
returns c = count_listed c.requires c.if-block-eq-CLEARED.false c.min.ensures
