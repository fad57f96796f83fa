-- `filter::is_cleared` meets its contract: the mode word is 0 exactly where the pair is cleared. Assumes nothing.
use mathlib.Core.Path.{sym}
use Rattle.filter.specs.Filter.{filter_of}
use Rattle.filter.proofs.Meaning.{cleared_test}
use Rattle.filter.proofs.is_cleared.Goals as goal

pub returns : goal.returns
unfolding filter_of
returns c = sym (cleared_test _ _ _ _)
