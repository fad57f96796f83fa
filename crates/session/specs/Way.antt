-- The word of a block that says which way its session goes; 0 for neither.
-- Assumes nothing.
use Rattle.std.specs.Prelude.{ℕ, Option, None, Some}
use Rattle.session.specs.declared.opening.Way.{Way}
use Rattle.session.specs.declared.opening.Way.TheVariants.{Receiving, Sending}

abbrev pub word : Way → ℕ
word Receiving = 1
word Sending = 2

abbrev pub word_in : Option Way → ℕ
word_in None = 0
word_in (Some way) = word way
