-- `Unit::count_of` meets its contract: by the tests on the way. Assumes nothing.
use Rattle.std.proofs.Common.{sym}
use Rattle.unit.proofs.Count.{too_few, too_many, count_four, count_same, counted}
use Rattle.unit.proofs.Unit.count_of.Goals.{then-count-via-then-count, then-count-via-else-count+then-count-2}
use Rattle.unit.proofs.Unit.count_of.Goals as goal

pub returns-then-count : goal.returns-then-count
returns-then-count c = elim c.then-count.branch [
  | then-count-via-then-count w ↦ counted _ (sym (count_four _ (too_few w.if-count.true)))
  | then-count-via-else-count+then-count-2 w ↦ counted _ (sym (count_four _ (too_many w.if-count-2.true)))
]

pub returns : goal.returns
returns c = counted _ (sym (count_same c.if-count.false c.if-count-2.false))
