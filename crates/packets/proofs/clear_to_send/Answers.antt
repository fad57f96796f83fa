-- `packets::clear_to_send` meets its contract: its word is made of those bytes. Assumes nothing.
use Rattle.std.proofs.Common.{refl, rules}
use Rattle.packets.specs.Frames.{clear_bytes}
use Rattle.packets.proofs.Frames.{frame_is}
use Rattle.packets.proofs.clear_to_send.Goals as goal

pub returns : goal.returns
returns c = frame_is (clear_bytes c.args.count c.args.first) refl (search rules) c.from_le_bytes.ensures
