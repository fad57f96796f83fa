-- `sessions::fill` meets its contract: the packets of a message are stored. Assumes nothing.
use Rattle.std.proofs.Common.{◌≡◌, arith, rules}
use Rattle.packets.specs.Words.{cut_words}
use Rattle.session.specs.Session.{session_of, with_packets}
use Rattle.sessions.proofs.Talk.{talk_long, changed}
use Rattle.sessions.proofs.fill.Goals as goal

pub change-requires-clause-inside : goal.change-requires-clause-inside
change-requires-clause-inside c = omega (arith, talk_long c.args.port.now)

pub returns : goal.returns
returns c =
    let L = c.change.ensures in
    let met = L.changed.met in
    let e : session_of L.changed.left.now ≡ with_packets (cut_words c.args.bytes.now) (session_of L.changed.shown.now) = search rules in
    changed (omega arith) L (with_packets (cut_words c.args.bytes.now)) c.requires.0 (rw (L.changed.leaves, L.changed.shows) at e)
