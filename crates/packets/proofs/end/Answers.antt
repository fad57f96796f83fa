-- `packets::end` meets its contract: its word is made of those bytes. Assumes nothing.
use Rattle.std.proofs.Common.{refl, rules, arith, ◌<◌, ◌/◌}
use Rattle.packets.specs.Frames.{end_bytes}
use Rattle.packets.proofs.Frames.{frame_is}
use Rattle.packets.proofs.end.Goals as goal

pub returns : goal.returns
returns c =
    let high : c.args.size / 256 < 256 = omega arith in
    frame_is (end_bytes c.args.size c.args.packets) refl (search rules) (omega (arith, rw c.to_le_bytes.ensures at c.from_le_bytes.ensures))
