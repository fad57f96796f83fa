-- Ticket 14, "the SA turns", "the destination turns", "Nothing else in a frame turns": an identifier with another source address, and one with another PS.
-- Proved as `turning` in proofs/Turning.antt.
-- Assumes nothing.
use Rattle.std.specs.Prelude.{ℕ, ◌+◌, ◌-◌, ◌*◌, ◌%◌, ◌^◌, ◌<◌, true, ◌≡◌}
use Rattle.identifier.specs.Identifier.{sa_of, ps_of, has_destination, pgn_of, destination_of}
use Rattle.identifier.specs.Picture.{Fields, fields_of}

-- an address in the place of SA, of any number
unfoldable pub with_source : ℕ → ℕ → ℕ
with_source id address = id - id % 2 ^ 8 + address

-- an address in the place of PS
unfoldable pub with_destination : ℕ → ℕ → ℕ
with_destination id address = id - id % 2 ^ 16 + address * 2 ^ 8 + id % 2 ^ 8

-- six fields with another SA, or another PS
abbrev pub sa_set : Fields → ℕ → Fields
sa_set x address = record {
  priority = x.priority;
  extended_data_page = x.extended_data_page;
  data_page = x.data_page;
  pf = x.pf;
  ps = x.ps;
  sa = address;
}

abbrev pub ps_set : Fields → ℕ → Fields
ps_set x address = record {
  priority = x.priority;
  extended_data_page = x.extended_data_page;
  data_page = x.data_page;
  pf = x.pf;
  ps = address;
  sa = x.sa;
}

pub record Turning : Type 0 where
  -- that field is the address, and the other five stay
  pub source : (id address : ℕ) → address < 2 ^ 8 → fields_of (with_source id address) ≡ sa_set (fields_of id) address
  pub destination : (id address : ℕ) → address < 2 ^ 8 → fields_of (with_destination id address) ≡ ps_set (fields_of id) address
  -- what has 29 bits still has
  pub source_small : (id address : ℕ) → address < 2 ^ 8 → id < 2 ^ 29 → with_source id address < 2 ^ 29
  pub destination_small : (id address : ℕ) → address < 2 ^ 8 → id < 2 ^ 29 → with_destination id address < 2 ^ 29
  -- the PGN stays; and where PS is the destination, that is the address
  pub source_pgn : (id address : ℕ) → address < 2 ^ 8 → pgn_of (with_source id address) ≡ pgn_of id
  pub destination_pgn : (id address : ℕ) → address < 2 ^ 8 → has_destination id ≡ true → pgn_of (with_destination id address) ≡ pgn_of id
  pub destination_is : (id address : ℕ) → address < 2 ^ 8 → has_destination id ≡ true → destination_of (with_destination id address) ≡ address
  -- there and back: turned twice is turned the second time alone, and turned to what it has is as it was
  pub source_again : (id address last : ℕ) → address < 2 ^ 8 → with_source (with_source id address) last ≡ with_source id last
  pub source_same : (id : ℕ) → with_source id (sa_of id) ≡ id
  pub destination_again : (id address last : ℕ) → address < 2 ^ 8 → with_destination (with_destination id address) last ≡ with_destination id last
  pub destination_same : (id : ℕ) → with_destination id (ps_of id) ≡ id
