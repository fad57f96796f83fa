-- The log's records in their literals, by the contracts of the two turnings: the request's example both ways, byte by byte, and lines and records that are refused.
-- `literals` of proofs/Literals.antt proves it. Assumes nothing.
use Rattle.std.specs.Prelude.{ℕ, ◌+◌, ◌*◌, ◌≤◌, cond, ◌&&◌, ◌≡◌, List, [], ◌∷◌, ltb, leb, length, take, Result, Ok}
use Rattle.candump.specs.declared.refusal.Refusal.{Refusal}
use Rattle.candump.specs.Refusals.{number_in}
use Rattle.candump.specs.Literals.{line_from, two_bytes, nine_bytes}
use Rattle.bench_records.specs.Turning.{text_refusal, ToRecord, ToText}

-- a record of identifier 18FEF121 and its eight bytes
abbrev pub record_from : ℕ → ℕ → List ℕ → List ℕ
record_from port len bytes = 1 ∷ port ∷ 0x18 ∷ 0xFE ∷ 0xF1 ∷ 0x21 ∷ len ∷ bytes

abbrev pub eight : List ℕ
eight = 1 ∷ 2 ∷ 3 ∷ 4 ∷ 5 ∷ 6 ∷ 7 ∷ 8 ∷ []

-- a record is turned into no text, by this number; a line into no record, by 26. Nothing is written
abbrev pub NoText : List ℕ → ℕ → Type 0
NoText log number = (before after : List ℕ) (r : Result ℕ Refusal) → 51 ≤ length before → ToText log before after r → (number_in r ≡ number) × (after ≡ before)

abbrev pub NoRecord : List ℕ → Type 0
NoRecord line = (before after : List ℕ) (r : Result Unit Refusal) → 15 ≤ length before → ToRecord line before after r → (number_in r ≡ 26) × (after ≡ before)

pub record Literals : Type 0 where
  -- "`(0000000000.000000) can1 18FEF121#0102` and a line feed" is 1, the port, "identifier most significant first", 2, 01, 02, "unused ones written 0"; and back
  pub to_record : (before after : List ℕ) (r : Result Unit Refusal) → 15 ≤ length before → ToRecord (line_from 49 two_bytes) before after r
      → (r ≡ Ok tt) × (take 15 after ≡ record_from 1 2 (1 ∷ 2 ∷ 0 ∷ 0 ∷ 0 ∷ 0 ∷ 0 ∷ 0 ∷ []))
  pub to_text : (before after : List ℕ) (r : Result ℕ Refusal) → 51 ≤ length before → ToText (record_from 1 2 (1 ∷ 2 ∷ 0 ∷ 0 ∷ 0 ∷ 0 ∷ 0 ∷ 0 ∷ [])) before after r
      → (r ≡ Ok 39) × (take 39 after ≡ line_from 49 two_bytes)
  -- "not read": the same with other bytes past the length
  pub not_read : (before after : List ℕ) (r : Result ℕ Refusal) → 51 ≤ length before → ToText (record_from 1 2 eight) before after r
      → (r ≡ Ok 39) × (take 39 after ≡ line_from 49 two_bytes)
  -- "a port, identifier or length out of range 1, 3 or 4", in this order
  pub numbers : (room port a b c d len b0 b1 b2 b3 b4 b5 b6 b7 : ℕ)
      → number_in (text_refusal room (1 ∷ port ∷ a ∷ b ∷ c ∷ d ∷ len ∷ b0 ∷ b1 ∷ b2 ∷ b3 ∷ b4 ∷ b5 ∷ b6 ∷ b7 ∷ []))
      ≡ cond (leb 1 port && leb port 4) (cond (ltb room 51) 2 (cond (leb 536870912 (16777216 * a + 65536 * b + 256 * c + d)) 3 (cond (leb 9 len) 4 0))) 1
  -- records of ports 0, 5 and 9, of nine bytes, and both wrong; "a take gets 24"; one that is cut short
  pub port0 : NoText (record_from 0 2 eight) 1
  pub port5 : NoText (record_from 5 2 eight) 1
  pub port9 : NoText (record_from 9 2 eight) 1
  pub nine : NoText (record_from 1 9 eight) 4
  pub both : NoText (record_from 5 9 eight) 1
  pub taken : NoText (2 ∷ 1 ∷ []) 24
  pub cut : NoText (record_from 5 9 (1 ∷ 2 ∷ 3 ∷ 4 ∷ 5 ∷ 6 ∷ 7 ∷ [])) 25
  -- and lines
  pub line0 : NoRecord (line_from 48 two_bytes)
  pub line5 : NoRecord (line_from 53 two_bytes)
  pub line9 : NoRecord (line_from 57 two_bytes)
  pub line_of_nine : NoRecord (line_from 49 nine_bytes)
  pub line_of_both : NoRecord (line_from 53 nine_bytes)
