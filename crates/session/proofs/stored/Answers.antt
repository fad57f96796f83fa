-- `session::stored` meets its contract: as many packets as the block says, 255 where it says more. Assumes nothing.
use Rattle.std.proofs.Common.{arith, sym, ◌∙◌}
use Rattle.session.proofs.Laws.{stored_is}
use Rattle.session.proofs.stored.Goals as goal

pub returns : goal.returns
returns c = (c.min.ensures ∙ sym (stored_is c.args.block.now (omega arith)), c.min.ensures, omega arith)
