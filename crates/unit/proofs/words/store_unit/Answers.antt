-- `words::store_unit` meets its contract: the five words copied are the own part that came back. Assumes nothing.
use Rattle.std.proofs.Common.{arith}
use Rattle.unit.proofs.Own.{own_stored}
use Rattle.unit.proofs.words.store_unit.Goals as goal

pub returns : goal.returns
returns c = λ ports. rw (c.copy_from_slice.ensures.after, c.word.ensures) (own_stored c.args.words.now c.args.unit (omega arith) (omega arith) (omega arith) c.requires.1 c.requires.2 ports)
