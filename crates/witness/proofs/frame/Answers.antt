-- `frame` meets its contract. Assumes nothing.
use Rattle.witness.proofs.Steps.{frame_step}
use borrow.Author.Rules.{rules}
use Rattle.witness.proofs.frame.Goals as goal

pub returns : goal.returns
returns c = frame_step (search rules) c.frame-r.ensures c.write_frame.ensures
