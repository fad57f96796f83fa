-- `forwarding::announce` meets its contract: by cases of what is sent. Assumes nothing.
use Rattle.forwarding.proofs.Loop.{told_nothing}
use Rattle.forwarding.proofs.announce.Goals as goal

pub returns-in-None : goal.returns-in-None
returns-in-None c = told_nothing c.in-None.is

pub returns-in-Some : goal.returns-in-Some
returns-in-Some c = rw c.in-Some.is c.join_all.ensures
