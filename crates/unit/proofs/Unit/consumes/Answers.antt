-- `Unit::consumes` meets its contract: by what the identifier's functions and `is_own` ensure. Assumes nothing.
use Rattle.unit.specs.Own.{consumes}
use Rattle.unit.proofs.Unit.consumes.Goals as goal

pub returns-then-has_destination : goal.returns-then-has_destination
unfolding consumes
returns-then-has_destination c = rw (c.is_own.ensures, c.ps.ensures, ← c.has_destination.ensures, c.if-has_destination.true)

pub returns-else-has_destination : goal.returns-else-has_destination
unfolding consumes
returns-else-has_destination c = rw (← c.has_destination.ensures, c.if-has_destination.false)
