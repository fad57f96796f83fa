-- The entries of a command: three bytes to a PGN, least significant first.
-- Assumes nothing.
use Rattle.std.specs.Prelude.{ℕ, suc, ◌+◌, ◌%◌, Bool, true, false, cond, ◌&&◌, ◌||◌, List, [], ◌∷◌, ◌++◌, length, take, drop, eqb, leb, Option, Some, None}
use Rattle.storage.specs.Bytes.{packed, bytes_of}
use Rattle.identifier.specs.Identifier.{is_pgn}

-- the numbers that bytes make, three to an entry; one or two bytes that are left make none
unfoldable pub entries_of : List ℕ → List ℕ
entries_of [] = []
entries_of (a ∷ []) = []
entries_of (a ∷ b ∷ []) = []
entries_of (a ∷ b ∷ c ∷ bytes) = packed (a ∷ b ∷ c ∷ []) ∷ entries_of bytes

-- the number that the three bytes from `at` on make
abbrev pub three_at : List ℕ → ℕ → ℕ
three_at bytes at = packed (take 3 (drop at bytes))

-- "three bytes make an entry or the command is refused": they are there, and make a PGN
unfoldable pub entry_at : List ℕ → ℕ → Option ℕ
entry_at bytes at = cond (leb (at + 3) (length bytes) && is_pgn (three_at bytes at)) (Some (three_at bytes at)) None

-- what an entry is by the rules' numbers: none, or 22
abbrev pub entry_number : Option ℕ → ℕ
entry_number (Some pgn) = 0
entry_number None = 22

-- whether x is in a list
unfoldable pub listed : ℕ → List ℕ → Bool
listed x [] = false
listed x (y ∷ ys) = eqb y x || listed x ys

-- whether a test holds of every element
unfoldable pub every : (ℕ → Bool) → List ℕ → Bool
every test [] = true
every test (x ∷ xs) = test x && every test xs

-- bytes that "hold entries to the last byte"
abbrev pub whole : List ℕ → Bool
whole bytes = eqb (length bytes % 3) 0

-- and each of them a PGN: what neither 12 nor 22 refuses
unfoldable pub well_formed : List ℕ → Bool
well_formed bytes = whole bytes && every is_pgn (entries_of bytes)

-- how many stand before the first for which a test fails
unfoldable pub leading : (ℕ → Bool) → List ℕ → ℕ
leading test [] = 0
leading test (x ∷ xs) = cond (test x) (suc (leading test xs)) 0

-- ticket 2: "the first such entry's number from 1", 0 where each is a PGN
unfoldable pub first_wrong : List ℕ → ℕ
first_wrong xs = cond (every is_pgn xs) 0 (suc (leading is_pgn xs))

-- function 0: the bytes that report a list
unfoldable pub reported : List ℕ → List ℕ
reported [] = []
reported (x ∷ xs) = bytes_of 3 x ++ reported xs
