-- `list_commands::leads_to` meets its contract: past the port itself the others' numbers are one up. Assumes nothing.
use native.Mathlib.Omega.{arith}
use borrow.Author.Tests.{lt-ltb, le-ltb}
use Rattle.list_commands.proofs.leads_to.Goals as goal

pub returns-then-k-from : goal.returns-then-k-from
returns-then-k-from c = rw (lt-ltb _ _ c.if-k-from.true) (omega arith)

pub returns : goal.returns
returns c = rw (le-ltb _ _ c.if-k-from.false) (omega arith)
