-- Ticket 1: a port's sessions in order of opening, the oldest first: what 1,053 words mean, and which of them is meant.
-- Assumes nothing.
use Rattle.std.specs.Prelude.{ℕ, suc, ◌+◌, ◌*◌, Bool, cond, ◌&&◌, List, [], ◌∷◌, ◌++◌, length, take, drop, get_or, eqb, ltb, Option, None, Some}
use Rattle.storage.specs.Blocks.{blocks_of}
use Rattle.session.specs.Session.{block_length, Session, session_of}

-- "Four open sessions for each port, both ways together"
abbrev pub most : ℕ
most = 4

abbrev pub port_length : ℕ
port_length = 1 + block_length * most

-- four blocks, open or not
unfoldable pub blocks_in : List ℕ → List Session
blocks_in words = blocks_of 1 block_length most session_of words

-- word 0 says how many are open, four where it says more
unfoldable pub talk_of : List ℕ → List Session
talk_of words = take (get_or words 0 0) (blocks_in words)

-- no session
unfoldable pub none : Session
none = record { way = 0; peer = 0; size = 0; through = 0; limit = 0; timer = 0; since = 0; packets = [] }

-- the place of the first that passes a test, or how many there are
unfoldable pub place_of : (Session → Bool) → List Session → ℕ
place_of test [] = 0
place_of test (s ∷ ss) = cond (test s) 0 (suc (place_of test ss))

-- that place, if there is one
abbrev pub place_in : (Session → Bool) → List Session → Option ℕ
place_in test ss = cond (ltb (place_of test ss) (length ss)) (Some (place_of test ss)) None

-- it goes that way, and is with that peer
abbrev pub is_with : ℕ → ℕ → Session → Bool
is_with way peer s = eqb s.way way && eqb s.peer peer

-- the place of the session that receives from a peer, and of that which sends to it
abbrev pub receiving : ℕ → List Session → ℕ
receiving peer ss = place_of (is_with 1 peer) ss

abbrev pub sending : ℕ → List Session → ℕ
sending peer ss = place_of (is_with 2 peer) ss

-- the one at a place ends; where there is none, nothing does
unfoldable pub remove_at : {A : Type 0} → ℕ → List A → List A
remove_at i xs = take i xs ++ drop (suc i) xs

abbrev pub removed_if : {A : Type 0} → Option ℕ → List A → List A
removed_if None xs = xs
removed_if (Some i) xs = remove_at i xs

-- the session that goes one way and is with a peer ends
abbrev pub without : ℕ → ℕ → List Session → List Session
without way peer ss = remove_at (place_of (is_with way peer) ss) ss
