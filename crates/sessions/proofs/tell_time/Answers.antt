-- `sessions::tell_time` meets its contract: the greater of two is stored. Assumes nothing.
use Rattle.std.proofs.Common.{arith}
use Rattle.sessions.proofs.Ports.{tells}
use Rattle.sessions.proofs.tell_time.Goals as goal

pub returns : goal.returns
returns c = rw c.max.ensures (tells c.args.ports c.args.told c.args.words.now (omega arith))
