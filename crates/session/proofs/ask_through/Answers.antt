-- `session::ask_through` meets its contract: one word is stored. Assumes nothing.
use Rattle.std.proofs.Common.{arith}
use Rattle.session.proofs.Laws.{asks}
use Rattle.session.proofs.ask_through.Goals as goal

pub returns : goal.returns
returns c = asks c.args.block.now (omega arith) c.args.through
