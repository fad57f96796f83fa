-- `sessions::change` meets its contract: the words from the block on are lent. Assumes nothing.
use Rattle.std.proofs.Common.{arith, rules}
use Rattle.sessions.proofs.Talk.{lends}
use Rattle.sessions.proofs.change.Goals as goal

pub returns : goal.returns
returns g c = lends c.args.port.now c.args.i (omega arith) c.requires.inside (search rules) c.change_first.ensures
