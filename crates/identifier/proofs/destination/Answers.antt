-- `identifier::destination` meets its contract: PS, where it is the destination, else all. Assumes nothing.
use Rattle.identifier.specs.Identifier.{destination_of}
use Rattle.identifier.proofs.destination.Goals as goal

pub returns-then-has_destination : goal.returns-then-has_destination
unfolding destination_of
returns-then-has_destination c = rw (c.ps.ensures, ← c.has_destination.ensures, c.if-has_destination.true)

pub returns : goal.returns
unfolding destination_of
returns c = rw (← c.has_destination.ensures, c.if-has_destination.false)
