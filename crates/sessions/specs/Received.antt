-- A message on its way: what of it has come, in the session that its sender is found by.
-- Assumes nothing.
use Rattle.std.specs.Prelude.{ℕ, Bool, cond, ◌≡◌, List, [], ◌∷◌, length, take, Option, None, Some}
use Rattle.packets.specs.Words.{cut_words}
use Rattle.session.specs.Session.{Session}
use Rattle.sessions.specs.Sessions.{is_with}

-- the first that passes a test
unfoldable pub first : (Session → Bool) → List Session → Option Session
first test [] = None
first test (s ∷ ss) = cond (test s) (Some s) (first test ss)

-- the first j packets of m have come from a peer
pub record Getting (m : List ℕ) (peer j : ℕ) (ss : List Session) : Type 0 where
  pub session : Session
  pub found : first (is_with 1 peer) ss ≡ Some session
  pub size : session.size ≡ length m
  pub came : session.packets ≡ take j (cut_words m)
