-- `sessions::open_blocks` meets its contract: the words behind the count are cut into blocks. Assumes nothing.
use Rattle.std.proofs.Common.{arith}
use Rattle.sessions.proofs.Talk.{blocks_are}
use Rattle.sessions.proofs.open_blocks.Goals as goal

pub returns-clause-value : goal.returns-clause-value
returns-clause-value c = rw c.as_chunks.ensures.front (blocks_are c.args.port.now c.count.result (omega arith) c.count.ensures.0)
