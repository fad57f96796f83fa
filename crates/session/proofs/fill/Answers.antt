-- `session::fill` meets its contract: the words of the packets are stored one after the other, then counted. Assumes nothing.
use Rattle.std.proofs.Common.{arith}
use Rattle.session.proofs.Bytes.{fill_start, fill_one, fill_done}
use Rattle.session.proofs.fill.Goals as goal

pub loop-i-init : goal.loop-i-init
loop-i-init c = fill_start c.args.block.now c.args.bytes.now (omega arith) c.requires

pub loop-i-preserved : goal.loop-i-preserved
loop-i-preserved c = fill_one c.args.bytes.now (omega arith) c.loop-i.invariant c.packet.ensures.word

pub returns : goal.returns
returns c = fill_done c.args.bytes.now (omega arith) (omega arith) c.loop-i.invariant
