-- `list_commands::clear` meets its contract: every pair that is named was cleared. Assumes nothing.
use Rattle.list_commands.proofs.clear.Goals as goal

pub returns : goal.returns
returns c = rw c.pairs_named.ensures.1 at (c.clear.ensures c.args.from c.args.to c.pairs_named.ensures.0)
