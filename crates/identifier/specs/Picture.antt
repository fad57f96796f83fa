-- The picture of an identifier: six fields side by side, from the highest bit down, and nothing between them.
--
--     bits   28 to 26    25     24    23 to 16   15 to 8   7 to 0
--     field  priority    EDP    DP       PF        PS        SA
--     place    2^26     2^25   2^24     2^16       2^8        1
--
-- An identifier and six numbers in their ranges are the same thing told in two ways. Proved as `picture` in proofs/Picture.antt.
-- Assumes nothing.
use Rattle.std.specs.Prelude.{ℕ, ◌+◌, ◌*◌, ◌%◌, ◌^◌, ◌<◌, ◌≡◌}
use Rattle.identifier.specs.Identifier.{priority_of, extended_data_page_of, data_page_of, pf_of, ps_of, sa_of}

-- six fields, in order
pub record Fields : Type 0 where
  pub priority : ℕ
  pub extended_data_page : ℕ
  pub data_page : ℕ
  pub pf : ℕ
  pub ps : ℕ
  pub sa : ℕ

-- each is a number of so many bits: three, one, one, and eight three times
pub record InRange (x : Fields) : Type 0 where
  pub priority : x.priority < 2 ^ 3
  pub extended_data_page : x.extended_data_page < 2 ^ 1
  pub data_page : x.data_page < 2 ^ 1
  pub pf : x.pf < 2 ^ 8
  pub ps : x.ps < 2 ^ 8
  pub sa : x.sa < 2 ^ 8

-- the fields of an identifier, which the six field functions answer
abbrev pub fields_of : ℕ → Fields
fields_of id = record {
  priority = priority_of id;
  extended_data_page = extended_data_page_of id;
  data_page = data_page_of id;
  pf = pf_of id;
  ps = ps_of id;
  sa = sa_of id;
}

-- six fields, each at its place
abbrev pub placed : Fields → ℕ
placed x = x.priority * 2 ^ 26 + x.extended_data_page * 2 ^ 25 + x.data_page * 2 ^ 24 + x.pf * 2 ^ 16 + x.ps * 2 ^ 8 + x.sa

pub record Picture : Type 0 where
  -- the fields at their places add up to the identifier
  pub adds_up : (id : ℕ) → id < 2 ^ 29 → placed (fields_of id) ≡ id
  -- and of any wider number to its lower 29 bits
  pub wider : (id : ℕ) → placed (fields_of id) ≡ id % 2 ^ 29
  -- the fields of every number are in their ranges
  pub in_range_lem : (id : ℕ) → InRange (fields_of id)
  -- the way back: six fields in their ranges, put at their places, are an identifier, and it has just these fields
  pub small : (x : Fields) → InRange x → placed x < 2 ^ 29
  pub back : (x : Fields) → InRange x → fields_of (placed x) ≡ x
