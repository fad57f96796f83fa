-- `sessions::packet` meets its contract: the block of a session is read. Assumes nothing.
use Rattle.std.proofs.Common.{arith, ap, ◌∙◌, ◌-◌, length, get_or}
use Rattle.session.specs.Session.{Session}
use Rattle.sessions.proofs.Talk.{lent}
use Rattle.sessions.proofs.packet.Goals as goal

pub packet-requires : goal.packet-requires
packet-requires c = let s = ap (λ (s : Session). length s.packets) (lent c.open_blocks.result.now c.args.i c.open_blocks.ensures.value c.requires.0) in (c.requires.1, omega arith)

pub returns : goal.returns
returns c = c.packet.ensures ∙ ap (λ (s : Session). get_or s.packets (c.args.k - 1) 0) (lent c.open_blocks.result.now c.args.i c.open_blocks.ensures.value c.requires.0)
