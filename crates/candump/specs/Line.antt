-- docs/RULES.md, "The bench log": a line of candump's text. Characters are their numbers. Assumes nothing.
use Rattle.std.specs.Prelude.{ℕ, ◌+◌, ◌-◌, ◌*◌, ◌/◌, ◌^◌, ◌≤◌, ◌<◌, Bool, true, false, ◌&&◌, ◌||◌, ◌≡◌, List, [], ◌∷◌, ◌++◌, eqb, ltb, leb, length, take, drop, get_or}
use Rattle.storage.specs.Bytes.{packed, bytes_of}
use Rattle.text.specs.Digits.{hex_of, hex_bytes, pair_at, four_bytes, from_four, is_decimal}
use Rattle.candump.specs.declared.Arrival.{Arrival}

-- ---- a frame as a line
-- (0000000000.000000)
abbrev pub stamp : List ℕ
stamp = 40 ∷ 48 ∷ 48 ∷ 48 ∷ 48 ∷ 48 ∷ 48 ∷ 48 ∷ 48 ∷ 48 ∷ 48 ∷ 46 ∷ 48 ∷ 48 ∷ 48 ∷ 48 ∷ 48 ∷ 48 ∷ 41 ∷ []

-- the time and " can1 "
abbrev pub head : ℕ → List ℕ
head port = stamp ++ (32 ∷ 99 ∷ 97 ∷ 110 ∷ (48 + port) ∷ 32 ∷ [])

-- the identifier's eight digits, #, the bytes, a line feed
abbrev pub tail : ℕ → ℕ → ℕ → List ℕ
tail id len bytes = hex_of (four_bytes id) ++ (35 ∷ (hex_of (take len (bytes_of 8 bytes)) ++ (10 ∷ [])))

-- " can1 " and the rest: what follows the time
abbrev pub body : Arrival → List ℕ
body a = 32 ∷ 99 ∷ 97 ∷ 110 ∷ (48 + a.port) ∷ 32 ∷ tail a.id a.len a.bytes

unfoldable pub written : Arrival → List ℕ
written a = stamp ++ body a

-- ---- a line as a frame
-- "the time's digits aside": a character of the line may stand for one of the text if they are the same, or both are digits of the time
abbrev pub fits : Bool → ℕ → ℕ → Bool
fits ofTime c d = eqb c d || (ofTime && (is_decimal c && is_decimal d))

-- a line and a text, of which the first k characters are the time
unfoldable pub alike : ℕ → List ℕ → List ℕ → Bool
alike k [] [] = true
alike k [] (d ∷ ds) = false
alike k (c ∷ cs) [] = false
alike k (c ∷ cs) (d ∷ ds) = fits (ltb 0 k) c d && alike (k - 1) cs ds

-- port 1 to 4, identifier below 2^29, at most eight bytes
unfoldable pub is_frame : Arrival → Bool
is_frame a = leb 1 a.port && (leb a.port 4 && (ltb a.id (2 ^ 29) && leb a.len 8))

-- What stands behind the time, at the places of a frame's parts.
unfoldable pub id_in : List ℕ → ℕ
id_in rest = from_four (pair_at rest 6) (pair_at rest 8) (pair_at rest 10) (pair_at rest 12)

unfoldable pub data_in : List ℕ → ℕ → ℕ
data_in rest len = packed (hex_bytes (take (2 * len) (drop 15 rest)))

abbrev pub len_in : List ℕ → ℕ
len_in rest = (length rest - 16) / 2

unfoldable pub arrival_in : List ℕ → Arrival
arrival_in rest = record { port = get_or rest 4 0 - 48; id = id_in rest; len = len_in rest; bytes = data_in rest (len_in rest) }

-- A line is a frame's if the frame that it shows is one, and is written as this line, the time's digits aside.
abbrev pub shows : List ℕ → Arrival
shows line = arrival_in (drop 19 line)

unfoldable pub is_line : List ℕ → Bool
is_line line = is_frame (shows line) && alike 19 line (written (shows line))

-- ---- the frames that are written
-- the bytes past the length are 0
pub record Good (a : Arrival) : Type 0 where
  pub first : 1 ≤ a.port
  pub last : a.port ≤ 4
  pub narrow : a.id < 2 ^ 29
  pub short : a.len ≤ 8
  pub filled : a.bytes < 256 ^ a.len
