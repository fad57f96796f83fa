-- `session::set_timer` meets its contract: two words are stored. Assumes nothing.
use Rattle.std.proofs.Common.{arith}
use Rattle.session.proofs.Laws.{times}
use Rattle.session.proofs.set_timer.Goals as goal

pub returns : goal.returns
returns c = times c.args.block.now (omega arith) c.args.timer c.args.since
