-- `sessions::ask_next` meets its contract: a number and a timer, one change after the other. Assumes nothing.
use Rattle.std.proofs.Common.{ap, ◌∙◌, length}
use Rattle.session.specs.Session.{Session}
use Rattle.sessions.specs.Heard.{ask_count}
use Rattle.sessions.proofs.Talk.{lent}
use Rattle.sessions.proofs.Steps.{asks_next}
use Rattle.sessions.proofs.ask_next.Goals as goal

pub returns : goal.returns
returns c =
    let s = lent c.open_blocks.result.now c.args.i c.open_blocks.ensures.value c.requires in
    asks_next c.args.port.now c.args.i c.args.time c.stored-stored.result c.ask_count-count.result c.requires
    (c.ask_count-count.ensures.0 ∙ ap ask_count s) (c.stored-stored.ensures.0 ∙ ap (λ (s : Session). length s.packets) s) c.ask_through.ensures c.set_timer.ensures
