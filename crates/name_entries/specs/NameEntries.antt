-- Ticket 4, "filter by who sent it": the NAME entries of a pair, each a PGN, a NAME and a qualification mask, and which of them a frame matches.
-- Assumes nothing.
use Rattle.std.specs.Prelude.{ℕ, zero, suc, ◌+◌, ◌/◌, ◌%◌, ◌≤◌, min, Bool, true, false, cond, ◌&&◌, ◌||◌, ◌≡◌, List, [], ◌∷◌, ◌++◌, length, get_or, drop, eqb, Option, None, Some}

pub record NameEntry : Type 0 where
  pub pgn : ℕ
  pub name : ℕ
  pub mask : ℕ

-- ---- what matches
-- "agrees in every bit set in the mask": each of the lowest k bits is not set in the mask, or equal in both NAMEs
unfoldable pub agree_in : ℕ → ℕ → ℕ → ℕ → Bool
agree_in zero mask a b = true
agree_in (suc k) mask a b = (eqb (mask % 2) 0 || eqb (a % 2) (b % 2)) && agree_in k (mask / 2) (a / 2) (b / 2)

-- a NAME is of 64 bits
unfoldable pub agrees : ℕ → ℕ → ℕ → Bool
agrees mask a b = agree_in 64 mask a b

-- "matches when the PGN is equal and .. a NAME that agrees in every bit set in the mask"
unfoldable pub matches : ℕ → ℕ → NameEntry → Bool
matches pgn name e = eqb e.pgn pgn && agrees e.mask e.name name

unfoldable pub any_match : ℕ → ℕ → List NameEntry → Bool
any_match pgn name [] = false
any_match pgn name (e ∷ es) = matches pgn name e || any_match pgn name es

-- whether an entry matches: none does where the sender is unknown, whatever its mask
abbrev pub matched_by : ℕ → Option ℕ → List NameEntry → Bool
matched_by pgn None es = false
matched_by pgn (Some name) es = any_match pgn name es

-- how many are compared: "up to the first match"
unfoldable pub place_in : ℕ → ℕ → List NameEntry → ℕ
place_in pgn name [] = 0
place_in pgn name (e ∷ es) = cond (matches pgn name e) 1 (suc (place_in pgn name es))

abbrev pub place_of : ℕ → Option ℕ → List NameEntry → ℕ
place_of pgn None es = length es
place_of pgn (Some name) es = place_in pgn name es

-- ---- "one already there": PGN, NAME and mask equal
unfoldable pub is_same : NameEntry → NameEntry → Bool
is_same e d = eqb d.pgn e.pgn && (eqb d.name e.name && eqb d.mask e.mask)

unfoldable pub is_there : NameEntry → List NameEntry → Bool
is_there e [] = false
is_there e (d ∷ ds) = is_same e d || is_there e ds

-- ---- a block: how many entries there are, and the words of eight
abbrev pub most_names : ℕ
most_names = 8

abbrev pub names_length : ℕ
names_length = 25

-- the entry whose words begin at a word
abbrev pub entry_at : List ℕ → ℕ → NameEntry
entry_at words a = record { pgn = get_or words a 0; name = get_or words (a + 1) 0; mask = get_or words (a + 2) 0 }

-- the entries that the first words make, n of them
unfoldable pub entries_in : ℕ → List ℕ → List NameEntry
entries_in zero words = []
entries_in (suc n) words = record { pgn = get_or words 0 0; name = get_or words 1 0; mask = get_or words 2 0 } ∷ entries_in n (drop 3 words)

-- a count above eight is eight
unfoldable pub names_of : List ℕ → List NameEntry
names_of words = entries_in (min (get_or words 0 0) most_names) (drop 1 words)

-- ---- the contracts
-- a search in a block
pub record Searching (words : List ℕ) (pgn : ℕ) (sender : Option ℕ) (found : Bool) (compared : ℕ) : Type 0 where
  pub answer : found ≡ matched_by pgn sender (names_of words)
  pub count : compared ≡ place_of pgn sender (names_of words)
  pub small : compared ≤ most_names

-- an entry put behind the first n of a block
pub record Appending (entry exit : List ℕ) (n : ℕ) (e : NameEntry) : Type 0 where
  pub names : names_of exit ≡ entries_in n (drop 1 entry) ++ e ∷ []
  pub long : length exit ≡ length entry
