-- `words::read_unit` meets its contract: the own words are the record's first five. Assumes nothing.
use Rattle.unit.proofs.Own.{own_read}
use Rattle.unit.proofs.words.read_unit.Goals as goal

pub returns : goal.returns
returns c = λ ports. rw (c.from_word.ensures, c.count_of.ensures.count) (own_read ports c.args.words.now)
