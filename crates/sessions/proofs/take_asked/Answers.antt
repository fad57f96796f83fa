-- `sessions::take_asked` meets its contract: a packet more, then the next are asked for. Assumes nothing.
use Rattle.sessions.proofs.Steps.{takes_asked}
use Rattle.sessions.proofs.take_asked.Goals as goal

pub returns : goal.returns
returns c = takes_asked c.args.port.now c.args.i c.args.word c.args.time c.requires c.store.ensures c.ask_next.ensures
