-- `flat_answers::write_word` meets its contract. The loop's invariant is `Written`: the bytes before i are the word's. Assumes nothing.
use Rattle.flat_answers.proofs.Words.{Written}
use Rattle.flat_answers.proofs.write_word.Given as goal

abbrev pub invariant-loop-i : goal.invariant-loop-i
invariant-loop-i l = Written l.word l.bytes l.i
