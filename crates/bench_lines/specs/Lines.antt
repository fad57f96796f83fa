-- docs/RULES.md, "The bench log": the lines that a run prints. Characters are their numbers. Assumes nothing.
use Rattle.std.specs.Prelude.{ℕ, ◌+◌, ◌/◌, ◌%◌, ◌≤◌, cond, List, [], ◌∷◌, ◌++◌, eqb, take, Option, Some, None}
use Rattle.storage.specs.Bytes.{bytes_of}
use Rattle.text.specs.Digits.{hex_of, four_bytes, decimal_of}
use Rattle.text.specs.Writing.{Writing}
use Rattle.queue.specs.declared.Frame.{Frame}

-- text of at most so many characters was put at a place
pub record Within (before after : List ℕ) (at : ℕ) (text : List ℕ) (r most : ℕ) : Type 0 where
  pub wrote : Writing before after at text r
  pub near : r ≤ at + most

-- room for the longest line
abbrev pub line_room : ℕ
line_room = 39

-- ---- R 3
unfoldable pub refused_text : ℕ → List ℕ
refused_text number = 82 ∷ 32 ∷ (decimal_of number ++ (10 ∷ []))

-- ---- F 234 -
-- a port's digit where its bit is set
abbrev pub digit_if : ℕ → ℕ → List ℕ
digit_if bit digit = cond (eqb bit 1) (digit ∷ []) []

abbrev pub or_dash : List ℕ → List ℕ
or_dash [] = 45 ∷ []
or_dash (c ∷ cs) = c ∷ cs

-- the ports of a mask, bit p - 1 for port p, in rising order; - for none
unfoldable pub ports_text : ℕ → List ℕ
ports_text mask = or_dash (digit_if (mask % 2) 49 ++ (digit_if (mask / 2 % 2) 50 ++ (digit_if (mask / 4 % 2) 51 ++ digit_if (mask / 8 % 2) 52)))

-- accepted ports, lost ports
unfoldable pub passed_text : ℕ → ℕ → List ℕ
passed_text accepted lost = 70 ∷ 32 ∷ (ports_text accepted ++ (32 ∷ (ports_text lost ++ (10 ∷ []))))

-- ---- T 18FEF121 0
-- the bytes after a blank, if there are any
abbrev pub data_text : ℕ → ℕ → List ℕ
data_text len bytes = cond (eqb len 0) [] (32 ∷ hex_of (take len (bytes_of 8 bytes)))

abbrev pub id_text : ℕ → List ℕ
id_text id = 84 ∷ 32 ∷ (hex_of (four_bytes id) ++ (32 ∷ []))

unfoldable pub given_text : ℕ → ℕ → ℕ → List ℕ
given_text id len bytes = 84 ∷ 32 ∷ (hex_of (four_bytes id) ++ (32 ∷ (decimal_of len ++ (data_text len bytes ++ (10 ∷ [])))))

abbrev pub taken_text : Option Frame → List ℕ
taken_text (Some f) = given_text f.id f.len f.bytes
taken_text None = 84 ∷ 32 ∷ 45 ∷ 10 ∷ []
