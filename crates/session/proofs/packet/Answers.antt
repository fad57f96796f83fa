-- `session::packet` meets its contract: the packets lie behind the block's own words. Assumes nothing.
use Rattle.std.proofs.Common.{arith}
use Rattle.session.proofs.Laws.{packet_is, stored_is}
use Rattle.session.proofs.packet.Goals as goal

pub overflow_add-result : goal.overflow_add-result
overflow_add-result c = omega (arith, stored_is c.args.block.now (omega arith))

pub offset_bounds-block-k : goal.offset_bounds-block-k
offset_bounds-block-k c = omega (arith, stored_is c.args.block.now (omega arith))

pub bounds-block-k : goal.bounds-block-k
bounds-block-k c = omega (arith, stored_is c.args.block.now (omega arith))

pub returns : goal.returns
returns c = packet_is c.args.block.now (omega arith) c.args.k c.requires.0 c.requires.1
