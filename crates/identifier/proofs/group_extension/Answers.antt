-- `identifier::group_extension` meets its contract: by the test on the way. Assumes nothing.
use Rattle.identifier.proofs.group_extension.Goals as goal

pub returns-then-has_destination : goal.returns-then-has_destination
returns-then-has_destination c = rw (← c.has_destination.ensures, c.if-has_destination.true)

pub returns : goal.returns
returns c = rw (c.ps.ensures, ← c.has_destination.ensures, c.if-has_destination.false)
