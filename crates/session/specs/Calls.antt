-- The contracts of what writes a message out.
-- Assumes nothing.
use Rattle.std.specs.Prelude.{ℕ, ◌≤◌, ◌≡◌, List, ◌++◌, length, take, drop}
use Rattle.session.specs.Session.{most_bytes, session_of, message}

-- a message at the front, r bytes long, and behind it what was there
pub record Writing (block before after : List ℕ) (r : ℕ) : Type 0 where
  pub written : after ≡ message (session_of block) ++ drop r before
  pub answer : r ≡ length (message (session_of block))
  pub small : r ≤ most_bytes

-- the same of its first n bytes
pub record Written (m before after : List ℕ) (n : ℕ) : Type 0 where
  pub inside : n ≤ length m
  pub bytes : after ≡ take n m ++ drop n before
