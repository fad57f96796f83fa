-- `replies::control` meets its contract: by the arm that the number takes. Assumes nothing.
use borrow.Author.Tests.{ne_eqb}
use Rattle.replies.specs.Replies.{control_of}
use Rattle.replies.proofs.control.Goals as goal

pub returns-in-0 : goal.returns-in-0
unfolding control_of
returns-in-0 c = rw c.in-0.is

pub returns-in-11 : goal.returns-in-11
unfolding control_of
returns-in-11 c = rw c.in-11.is

pub returns-in_default : goal.returns-in_default
unfolding control_of
returns-in_default c = simp (ne_eqb _ _ c.in_default.in_default-own.rest.0.1, ne_eqb _ _ c.in_default.in_default-own.rest.1)
