-- docs/RULES.md, "Parameters": a counter of the messages lost to a full buffer, in one word.
-- Assumes nothing.
use Rattle.std.specs.Prelude.{ℕ, suc, cond, List, get_or, ltb}

-- losses "stay at 64,255"
abbrev pub most : ℕ
most = 64255

-- one more
unfoldable pub one_more : ℕ → ℕ
one_more n = cond (ltb n most) (suc n) n

-- what a word means: one beyond the last count is the last
unfoldable pub held : ℕ → ℕ
held word = cond (ltb word most) word most

abbrev pub counter_length : ℕ
counter_length = 1

unfoldable pub losses_of : List ℕ → ℕ
losses_of counter = held (get_or counter 0 0)
