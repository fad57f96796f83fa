-- `sessions::move_down` meets its contract: the words of the block behind are copied. Assumes nothing.
use Rattle.std.proofs.Common.{arith}
use Rattle.sessions.proofs.Region.{moved}
use Rattle.sessions.proofs.move_down.Goals as goal

pub returns : goal.returns
returns c = rw c.copy_within.ensures.after (moved c.args.port.now c.args.i (omega arith) c.requires)
