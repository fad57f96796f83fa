-- Text that is put into a lent buffer at a place: what stands before it and behind it is untouched. Assumes nothing.
use Rattle.std.specs.Prelude.{ℕ, ◌+◌, ◌≡◌, List, ◌++◌, length, take, drop}

-- a buffer with text at a place
abbrev pub put : ℕ → List ℕ → List ℕ → List ℕ
put at text lent = take at lent ++ (text ++ drop (at + length text) lent)

-- a function put this text at a place, and answered the next place
pub record Writing (before after : List ℕ) (at : ℕ) (text : List ℕ) (r : ℕ) : Type 0 where
  pub next : r ≡ at + length text
  pub bytes : after ≡ put at text before
