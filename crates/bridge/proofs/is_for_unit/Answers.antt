-- `bridge::is_for_unit` meets its contract: no frame without a destination is consumed. Assumes nothing.
use Rattle.unit.specs.Own.{consumes}
use Rattle.bridge.proofs.is_for_unit.Goals as goal

pub returns-then-has_destination : goal.returns-then-has_destination
returns-then-has_destination c = λ ports. rw (← (c.read_unit-unit.ensures ports)) c.consumes.ensures

pub returns : goal.returns
unfolding consumes
returns c = λ ports. rw (← c.has_destination.ensures, c.if-has_destination.false)
