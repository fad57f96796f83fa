-- `Unit::is_own` meets its contract: by what `holds_address` ensures. Assumes nothing.
use Rattle.unit.specs.Own.{is_own}
use Rattle.unit.proofs.Unit.is_own.Goals as goal

pub returns-then-holds_address : goal.returns-then-holds_address
unfolding is_own
returns-then-holds_address c = rw (← c.holds_address.ensures, c.if-holds_address.true)

pub returns-else-holds_address : goal.returns-else-holds_address
unfolding is_own
returns-else-holds_address c = rw (← c.holds_address.ensures, c.if-holds_address.false)
