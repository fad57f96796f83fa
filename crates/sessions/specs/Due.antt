-- "aborts sessions at their limit, oldest first": those at their limit, in order of opening, and those that stay. The oldest
-- ends, again and again, until none is at its limit.
-- Assumes nothing.
use Rattle.std.specs.Prelude.{ℕ, zero, suc, Bool, cond, not, ◌≡◌, List, [], ◌∷◌, length, get_or, ltb, Option, None, Some}
use Rattle.session.specs.Session.{Session, is_due}
use Rattle.sessions.specs.Sessions.{talk_of, none, place_of, remove_at}

-- those that pass a test, in order
unfoldable pub those : (Session → Bool) → List Session → List Session
those test [] = []
those test (s ∷ ss) = cond (test s) (s ∷ those test ss) (those test ss)

abbrev pub others : (Session → Bool) → List Session → List Session
others test ss = those (λ s. not (test s)) ss

-- the place of the oldest at its limit, or how many there are
abbrev pub first_due : ℕ → List Session → ℕ
first_due time ss = place_of (is_due time) ss

-- one step
abbrev pub ended_by : ℕ → List Session → Option ℕ
ended_by time ss = cond (ltb (first_due time ss) (length ss)) (Some (get_or ss (first_due time ss) none).peer) None

pub record Ending (before after : List ℕ) (time : ℕ) (r : Option ℕ) : Type 0 where
  pub talk : talk_of after ≡ remove_at (first_due time (talk_of before)) (talk_of before)
  pub answer : r ≡ ended_by time (talk_of before)

-- ---- the first that passes a test ends: it is the first of those that pass, and the others stay
pub record Next (test : Session → Bool) (ss : List Session) : Type 0 where
  pub ends : those test ss ≡ get_or ss (place_of test ss) none ∷ those test (remove_at (place_of test ss) ss)
  pub stay : others test ss ≡ others test (remove_at (place_of test ss) ss)

-- none passes any more
pub record Over (test : Session → Bool) (ss : List Session) : Type 0 where
  pub ends : those test ss ≡ []
  pub stay : others test ss ≡ ss

-- ---- steps one after the other, n at most: those that ended, in order, and those that are left
unfoldable pub ending : ℕ → (Session → Bool) → List Session → List Session
ending zero test ss = []
ending (suc n) test ss =
    cond (ltb (place_of test ss) (length ss))
    (get_or ss (place_of test ss) none ∷ ending n test (remove_at (place_of test ss) ss))
    []

unfoldable pub leaving : ℕ → (Session → Bool) → List Session → List Session
leaving zero test ss = ss
leaving (suc n) test ss = cond (ltb (place_of test ss) (length ss)) (leaving n test (remove_at (place_of test ss) ss)) ss

-- as many steps as there are sessions end exactly those that pass, in order
pub record InTime (test : Session → Bool) (ss : List Session) : Type 0 where
  pub ended : ending (length ss) test ss ≡ those test ss
  pub left : leaving (length ss) test ss ≡ others test ss
