-- `session::store` meets its contract: behind the packets that are there one word is stored, and counted. Assumes nothing.
use Rattle.std.proofs.Common.{arith, ◌∙◌}
use Rattle.session.proofs.Laws.{stored_is, stores, stays}
use Rattle.session.proofs.store.Goals as goal

pub returns-then-k-lt-MOST : goal.returns-then-k-lt-MOST
returns-then-k-lt-MOST c =
    let block = c.args.block.now in
    stores block (omega arith) c.stored-k.result c.args.word (c.stored-k.ensures.0 ∙ stored_is block (omega arith)) (omega arith)

pub returns-else-k-lt-MOST : goal.returns-else-k-lt-MOST
returns-else-k-lt-MOST c =
    let block = c.args.block.now in
    stays block (omega arith) c.stored-k.result c.args.word (c.stored-k.ensures.0 ∙ stored_is block (omega arith)) (omega arith)
