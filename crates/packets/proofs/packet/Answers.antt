-- `packets::packet` meets its contract: the bytes are copied between the number and the filling. Assumes nothing.
use Rattle.std.proofs.Common.{rules, arith}
use Rattle.packets.proofs.Words.{packet_made, cutting}
use Rattle.packets.proofs.packet.Goals as goal

pub returns : goal.returns
returns c =
    let left = c.args.left.now in
    cutting left c.args.k (search rules) (λ i. (c.type_inv.left i).fits) (omega arith)
    (packet_made left c.copy_from_slice.new.self c.args.k c.min.result c.min.ensures c.copy_from_slice.ensures.after) c.from_le_bytes.ensures
