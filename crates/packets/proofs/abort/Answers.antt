-- `packets::abort` meets its contract: its word is made of those bytes. Assumes nothing.
use Rattle.std.proofs.Common.{refl, rules}
use Rattle.packets.specs.Frames.{abort_bytes}
use Rattle.packets.proofs.Frames.{frame_is}
use Rattle.packets.proofs.abort.Goals as goal

pub returns : goal.returns
returns c = frame_is abort_bytes refl (search rules) c.from_le_bytes.ensures
