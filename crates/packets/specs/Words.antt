-- Packets as the words of their frames: the number and 256 times the seven bytes. Cut and put together so, a message is the
-- same too.
-- Assumes nothing.
use Rattle.std.specs.Prelude.{ℕ, zero, suc, ◌≤◌, ◌≡◌, List, [], ◌∷◌, ◌++◌, length, take, drop}
use Rattle.storage.specs.Bytes.{packed, bytes_of}
use Rattle.storage.proofs.Bytes.{AllBytes}
use Rattle.packets.specs.Packets.{packets_of, packet}

-- n packets, numbered from k on
unfoldable pub words_from : ℕ → ℕ → List ℕ → List ℕ
words_from zero k left = []
words_from (suc n) k left = packed (packet k left) ∷ words_from n (suc k) (drop 7 left)

abbrev pub cut_words : List ℕ → List ℕ
cut_words m = words_from (packets_of (length m)) 1 m

-- what packets carry, one after the other
unfoldable pub carried_in : List ℕ → List ℕ
carried_in [] = []
carried_in (w ∷ ws) = drop 1 (bytes_of 8 w) ++ carried_in ws

abbrev pub together_in : ℕ → List ℕ → List ℕ
together_in size ws = take size (carried_in ws)

pub record CutWords (m : List ℕ) : Type 0 where
  pub same : AllBytes m → 9 ≤ length m → length m ≤ 1785 → together_in (length m) (cut_words m) ≡ m
  pub many : length (cut_words m) ≡ packets_of (length m)

-- ---- the contract of `packet`
-- r is the word of the packet numbered k, of the bytes that are left
pub record Cutting (left : List ℕ) (k r : ℕ) : Type 0 where
  pub word : r ≡ packed (packet k left)
  pub frame : bytes_of 8 r ≡ packet k left
