-- The request's line and numbers in their literals: the example byte by byte, which characters name a port, the order of the numbers, and lines and frames that are
-- none. A number that is changed in code and definition together is refused here. `literals` of proofs/Literals.antt proves it. Assumes nothing.
use Rattle.std.specs.Prelude.{ℕ, ◌+◌, ◌-◌, ◌^◌, ◌≤◌, ◌<◌, cond, ◌&&◌, ◌≡◌, List, [], ◌∷◌, ltb, leb, get_or, Ok}
use Rattle.candump.specs.declared.Arrival.{Arrival}
use Rattle.candump.specs.Refusals.{number_in}
use Rattle.candump.specs.Line.{written}
use Rattle.candump.specs.Calls.{line_read, line_refusal}

abbrev pub arrival : ℕ → ℕ → ℕ → ℕ → Arrival
arrival port id len bytes = record { port = port; id = id; len = len; bytes = bytes }

-- `(0000000000.000000) can1 18FEF121#` with another character for the 1, and what follows
abbrev pub line_from : ℕ → List ℕ → List ℕ
line_from port rest =
    40 ∷ 48 ∷ 48 ∷ 48 ∷ 48 ∷ 48 ∷ 48 ∷ 48 ∷ 48 ∷ 48 ∷ 48 ∷ 46 ∷ 48 ∷ 48 ∷ 48 ∷ 48 ∷ 48 ∷ 48 ∷ 41 ∷ 32
    ∷ 99 ∷ 97 ∷ 110 ∷ port ∷ 32 ∷ 49 ∷ 56 ∷ 70 ∷ 69 ∷ 70 ∷ 49 ∷ 50 ∷ 49 ∷ 35 ∷ rest

-- `0102` and a line feed; nine bytes and a line feed
abbrev pub two_bytes : List ℕ
two_bytes = 48 ∷ 49 ∷ 48 ∷ 50 ∷ 10 ∷ []

abbrev pub nine_bytes : List ℕ
nine_bytes = 48 ∷ 49 ∷ 48 ∷ 50 ∷ 48 ∷ 51 ∷ 48 ∷ 52 ∷ 48 ∷ 53 ∷ 48 ∷ 54 ∷ 48 ∷ 55 ∷ 48 ∷ 56 ∷ 48 ∷ 57 ∷ 10 ∷ []

pub record Literals : Type 0 where
  -- "`(0000000000.000000) can1 18FEF121#0102` and a line feed", "can1 to can4 naming the port"
  pub example : written (arrival 1 0x18FEF121 2 0x0201) ≡ line_from 49 two_bytes
  pub can : (port : ℕ) → 1 ≤ port → port ≤ 4 → line_read (line_from (48 + port) two_bytes) ≡ Ok (arrival port 0x18FEF121 2 0x0201)
  -- what is read has a port of 1 to 4, by a character of 49 to 52, an identifier below 2^29 and at most eight bytes
  pub port : (line : List ℕ) (a : Arrival) → line_read line ≡ Ok a
      → (49 ≤ get_or line 23 0) × (get_or line 23 0 ≤ 52) × (a.port ≡ get_or line 23 0 - 48) × (a.id < 536870912) × (a.len ≤ 8)
  -- every frame with such numbers is read as it was written
  pub again : (port id len bytes : ℕ) → 1 ≤ port → port ≤ 4 → id < 536870912 → len ≤ 8 → bytes < 256 ^ len
      → line_read (written (arrival port id len bytes)) ≡ Ok (arrival port id len bytes)
  -- "a port, identifier or length out of range 1, 3 or 4", in this order; 2, a buffer without room, stands behind 1
  pub numbers : (room : ℕ) (a : Arrival)
      → number_in (line_refusal room a) ≡ cond (leb 1 a.port && leb a.port 4) (cond (ltb room 51) 2 (cond (leb 536870912 a.id) 3 (cond (leb 9 a.len) 4 0))) 1
  -- no lines: ports 0, 5 and 9, nine bytes, both wrong
  pub port0 : number_in (line_read (line_from 48 two_bytes)) ≡ 26
  pub port5 : number_in (line_read (line_from 53 two_bytes)) ≡ 26
  pub port9 : number_in (line_read (line_from 57 two_bytes)) ≡ 26
  pub nine : number_in (line_read (line_from 49 nine_bytes)) ≡ 26
  pub both : number_in (line_read (line_from 53 nine_bytes)) ≡ 26
