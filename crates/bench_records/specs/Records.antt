-- docs/RULES.md, "The bench log": the records of our log. Kind 1 is a frame (arrival port, identifier most significant first, length, eight bytes, those
-- unused written 0 and not read), kind 2 a take (the port). Assumes nothing.
use Rattle.std.specs.Prelude.{ℕ, cond, ◌||◌, List, ◌∷◌, ◌++◌, eqb, ltb, length, take, drop, get_or}
use Rattle.storage.specs.Bytes.{packed, bytes_of}
use Rattle.text.specs.Digits.{four_bytes, from_four}
use Rattle.candump.specs.declared.Arrival.{Arrival}

abbrev pub frame_size : ℕ
frame_size = 15

abbrev pub take_size : ℕ
take_size = 2

abbrev pub kind_of : List ℕ → ℕ
kind_of log = get_or log 0 0

abbrev pub size_of : ℕ → ℕ
size_of kind = cond (eqb kind 1) frame_size take_size

-- 24: unknown kind; 25: log cut short. `log` is not empty.
unfoldable pub log_number : List ℕ → ℕ
log_number log = cond (eqb (kind_of log) 1 || eqb (kind_of log) 2) (cond (ltb (length log) (size_of (kind_of log))) 25 0) 24

-- ---- a frame's record
abbrev pub id_of : List ℕ → ℕ
id_of log = from_four (get_or log 2 0) (get_or log 3 0) (get_or log 4 0) (get_or log 5 0)

-- the bytes as a word: there are eight, however long the frame is said to be
unfoldable pub word_of : List ℕ → ℕ
word_of log = packed (take (get_or log 6 0) (take 8 (drop 7 log)))

unfoldable pub arrival_of : List ℕ → Arrival
arrival_of log = record { port = get_or log 1 0; id = id_of log; len = get_or log 6 0; bytes = word_of log }

unfoldable pub record_of : Arrival → List ℕ
record_of a = 1 ∷ a.port ∷ (four_bytes a.id ++ (a.len ∷ bytes_of 8 a.bytes))
