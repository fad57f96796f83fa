-- `words::ports_of` meets its contract: the fifth word, or none, which is no count. Assumes nothing.
use Rattle.unit.proofs.Count.{too_few, count_four, counted}
use Rattle.unit.specs.Count.{ports_of}
use native.Mathlib.Omega.{arith}
use lib.ListN.{get_or-eq_default}
use mathlib.Core.Path.{sym}
use Rattle.unit.proofs.words.ports_of.Goals as goal

pub returns-then-words-lt5 : goal.returns-then-words-lt5
unfolding ports_of
returns-then-words-lt5 c = let words = c.args.words.now in
    rw (get_or-eq_default words 0 {n = 4} (omega arith)) (counted 0 (sym (count_four 0 (too_few (omega arith)))))

pub returns : goal.returns
unfolding ports_of
returns c = c.count_of.ensures
