-- Ticket 1: "Any message of 9 to 1,785 bytes, cut and put together with every packet in order, is the same message."
-- Assumes nothing.
use Rattle.std.specs.Prelude.{ℕ, zero, suc, ◌+◌, ◌-◌, ◌/◌, ◌≤◌, ◌≡◌, List, [], ◌∷◌, ◌++◌, length, take, drop, replicate}

-- seven bytes a packet
abbrev pub packets_of : ℕ → ℕ
packets_of size = (size + 6) / 7

-- the packet numbered k, of the bytes that are left: its number, seven bytes, FF behind the last byte of the message
abbrev pub packet : ℕ → List ℕ → List ℕ
packet k left = k ∷ (take 7 left ++ replicate (7 - length (take 7 left)) 0xFF)

-- n packets, numbered from k on
unfoldable pub packets_from : ℕ → ℕ → List ℕ → List (List ℕ)
packets_from zero k left = []
packets_from (suc n) k left = packet k left ∷ packets_from n (suc k) (drop 7 left)

-- a message cut into packets, numbered from 1 on
abbrev pub cut : List ℕ → List (List ℕ)
cut m = packets_from (packets_of (length m)) 1 m

-- what packets carry, one after the other: all of each but its number
unfoldable pub carried : List (List ℕ) → List ℕ
carried [] = []
carried (p ∷ ps) = drop 1 p ++ carried ps

-- a message of so many bytes put together: the filling is left out
abbrev pub together : ℕ → List (List ℕ) → List ℕ
together size ps = take size (carried ps)

-- what is said of every message
pub record Cut (m : List ℕ) : Type 0 where
  pub same : together (length m) (cut m) ≡ m
  pub many : length (cut m) ≡ packets_of (length m)
  -- a packet's number is a byte
  pub few : length m ≤ 1785 → length (cut m) ≤ 255
