-- `forwarding::join_all` meets its contract: the loop over the ports. Assumes nothing.
use Rattle.forwarding.proofs.Loop.{Telling}
use Rattle.forwarding.proofs.join_all.Given as goal

abbrev pub invariant-loop-port : goal.invariant-loop-port
invariant-loop-port l = Telling l.ports l.initial.words l.f l.words l.lost l.bit l.port
