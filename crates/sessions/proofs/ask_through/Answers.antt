-- `sessions::ask_through` meets its contract: a number is noted. Assumes nothing.
use Rattle.std.proofs.Common.{◌≡◌, arith, rules}
use Rattle.session.specs.Session.{session_of, asking}
use Rattle.sessions.proofs.Talk.{talk_long, changed}
use Rattle.sessions.proofs.ask_through.Goals as goal

pub change-requires-clause-inside : goal.change-requires-clause-inside
change-requires-clause-inside c = omega (arith, talk_long c.args.port.now)

pub returns : goal.returns
returns c =
    let L = c.change.ensures in
    let met = L.changed.met in
    let e : session_of L.changed.left.now ≡ asking c.args.through (session_of L.changed.shown.now) = search rules in
    changed (omega arith) L (asking c.args.through) c.requires (rw (L.changed.leaves, L.changed.shows) at e)
