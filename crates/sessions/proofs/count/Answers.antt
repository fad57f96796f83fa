-- `sessions::count` meets its contract: the count word, or four. Assumes nothing.
use Rattle.std.proofs.Common.{arith}
use Rattle.sessions.proofs.Talk.{talk_long}
use Rattle.sessions.proofs.count.Goals as goal

pub returns : goal.returns
returns c = let long = talk_long c.args.port.now in (omega (arith, long), omega arith, omega arith)
