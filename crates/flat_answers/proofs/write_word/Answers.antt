-- `flat_answers::write_word` meets its contract. The loop's invariant is `Written`: the bytes before i are the word's. Assumes nothing.
use Rattle.flat_answers.proofs.Words.{written_start, written_more, written_all}
use Rattle.flat_answers.proofs.write_word.Goals as goal

pub loop-i-init : goal.loop-i-init
loop-i-init c = written_start c.requires

pub loop-i-preserved : goal.loop-i-preserved
loop-i-preserved c = written_more c.loop-i-test.true c.byte_at.ensures c.loop-i.invariant

pub returns : goal.returns
returns c = written_all c.loop-i-test.false c.loop-i.invariant
