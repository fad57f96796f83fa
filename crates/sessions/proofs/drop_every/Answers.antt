-- `sessions::drop_every` meets its contract: the words of each port are lent and come back without a session. Assumes nothing.
use Rattle.std.proofs.Common.{arith}
use Rattle.sessions.proofs.Ports.{emptied_none, emptied_one, emptied_all}
use Rattle.sessions.proofs.drop_every.Goals as goal

pub loop-p-init : goal.loop-p-init
loop-p-init c = emptied_none

pub loop-p-preserved : goal.loop-p-preserved
loop-p-preserved c = emptied_one c.drop_all.new.port (omega arith) (omega arith) (omega arith) c.drop_all.ensures c.loop-p.invariant

pub returns : goal.returns
returns c = emptied_all (omega arith) (omega arith) c.loop-p.invariant
