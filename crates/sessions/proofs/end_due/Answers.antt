-- `sessions::end_due` meets its contract: the oldest at its limit goes out. Assumes nothing.
use Rattle.std.proofs.Common.{arith, ap, ◌∙◌}
use Rattle.session.specs.Session.{Session, is_due}
use Rattle.sessions.specs.Sessions.{talk_of}
use Rattle.sessions.proofs.Talk.{lent}
use Rattle.sessions.proofs.Search.{place_some, place_none}
use Rattle.sessions.proofs.Due.{ends_nothing, ends_one}
use Rattle.sessions.proofs.end_due.Goals as goal

pub returns-in_err-i : goal.returns-in_err-i
returns-in_err-i c =
    rw c.from_residual.ensures
    (ends_nothing c.args.port.now c.args.time (place_none (is_due c.args.time) (talk_of c.args.port.now) (rw c.in_err-i.was at c.first_due.ensures.place)))

pub returns : goal.returns
returns c =
    let i = c.in_ok-i.i in
    let p = place_some (is_due c.args.time) (talk_of c.args.port.now) (rw c.in_ok-i.was at c.first_due.ensures.place) in
    ends_one c.args.port.now c.args.time p.0 (omega (arith, p.0, p.1))
    (c.peer-peer.ensures ∙ ap (λ (s : Session). s.peer) (lent c.open_blocks.result.now i c.open_blocks.ensures.value (omega (arith, p.0, p.1)))) c.close.ensures
