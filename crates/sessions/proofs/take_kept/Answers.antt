-- `sessions::take_kept` meets its contract: a packet more, then a timer. Assumes nothing.
use Rattle.sessions.specs.Sessions.{talk_of}
use Rattle.sessions.proofs.Steps.{takes_kept}
use Rattle.sessions.proofs.take_kept.Goals as goal

pub returns : goal.returns
returns c = takes_kept (talk_of c.args.port.now) c.args.i c.args.word c.args.time c.requires c.store.ensures c.set_timer.ensures
