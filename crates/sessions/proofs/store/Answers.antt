-- `sessions::store` meets its contract: a packet is put behind the others. Assumes nothing.
use Rattle.std.proofs.Common.{◌≡◌, arith, rules}
use Rattle.session.specs.Session.{session_of, with_packet}
use Rattle.sessions.proofs.Talk.{talk_long, changed}
use Rattle.sessions.proofs.store.Goals as goal

pub change-requires-clause-inside : goal.change-requires-clause-inside
change-requires-clause-inside c = omega (arith, talk_long c.args.port.now)

pub returns : goal.returns
returns c =
    let L = c.change.ensures in
    let met = L.changed.met in
    let e : session_of L.changed.left.now ≡ with_packet c.args.word (session_of L.changed.shown.now) = search rules in
    changed (omega arith) L (with_packet c.args.word) c.requires (rw (L.changed.leaves, L.changed.shows) at e)
