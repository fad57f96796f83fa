-- `sessions::open` meets its contract: the next block is opened, and counted. Assumes nothing.
use Rattle.std.proofs.Common.{◌≡◌, ◌∙◌, ap, set, arith, rules}
use Rattle.session.specs.Session.{Session, session_of}
use Rattle.session.specs.Opening.{opened_by}
use Rattle.sessions.specs.Sessions.{blocks_in}
use Rattle.sessions.proofs.Talk.{block_put, opens}
use Rattle.sessions.proofs.open.Goals as goal

pub returns : goal.returns
returns c =
    let port = c.args.port.now in
    let n = c.count-n.result in
    let L = c.change.ensures in
    let met = L.changed.met in
    let e : session_of L.changed.left.now ≡ opened_by c.args.opening = search rules in
    opens port c.change.new.port n (opened_by c.args.opening) (omega arith) c.count-n.ensures.0 (omega arith)
    (block_put (omega arith) L (omega arith) ∙ ap (λ (s : Session). set (blocks_in port) n s) (rw L.changed.leaves at e))
