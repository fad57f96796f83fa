-- `checks::is_port` meets its contract: by the tests on the way. Assumes nothing.
use borrow.Author.Tests.{le-leb, lt-leb}
use Rattle.checks.specs.Ports.{is_port}
use Rattle.checks.proofs.is_port.Goals as goal

pub returns-then-port-lt1 : goal.returns-then-port-lt1
unfolding is_port
returns-then-port-lt1 c = simp (lt-leb _ _ c.if-port-lt1.true)

pub returns : goal.returns
unfolding is_port
returns c = simp (le-leb _ _ c.if-port-lt1.false)
