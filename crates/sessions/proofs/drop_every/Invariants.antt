-- `sessions::drop_every` meets its contract: the words of each port are lent and come back without a session. Assumes nothing.
use Rattle.sessions.proofs.Ports.{Emptied}
use Rattle.sessions.proofs.drop_every.Given as goal

abbrev pub invariant-loop-p : goal.invariant-loop-p
invariant-loop-p l = Emptied l.ports l.initial.words l.words l.p
