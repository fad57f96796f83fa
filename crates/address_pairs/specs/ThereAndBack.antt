-- Ticket 14, "No inner address occurs twice in a table and no outer one twice in the unit, so an address turned there and back is the same."
-- Proved as `there_and_back` in proofs/ThereAndBack.antt.
-- Assumes nothing.
use Rattle.std.specs.Prelude.{ℕ, ◌-◌, ◌/◌, ◌<◌, true, ◌≡◌, List, [], length, get_or, replicate, Some}
use Rattle.address_pairs.specs.AddressPairs.{AddressPair, inner_side, outer_side, out_of, in_to, stands, once, pairs_length, tables_of, table_of, refusal_of, added}

-- the rule of the tables
pub record OnceEach (tables : List (List AddressPair)) : Type 0 where
  -- "No inner address occurs twice in a table"
  pub inner : (i : ℕ) → once inner_side (get_or tables i []) ≡ true
  -- "and no outer one twice in the unit": in no table, and in no two of them
  pub outer : (i : ℕ) → once outer_side (get_or tables i []) ≡ true
  pub one_table : (i j address : ℕ) → stands outer_side (get_or tables i []) address ≡ true → stands outer_side (get_or tables j []) address ≡ true → i ≡ j

pub record ThereAndBack : Type 0 where
  -- "empty at power-on": words that are all 0
  pub empty : (n : ℕ) → tables_of (replicate n 0) ≡ replicate (n / pairs_length) []
  pub fresh : (n : ℕ) → OnceEach (replicate n [])
  -- an entry that is not refused keeps it
  pub kept : (tables : List (List AddressPair)) (port outer inner : ℕ) → port - 2 < length tables → OnceEach tables → refusal_of tables port outer inner ≡ 0 → OnceEach (added tables port outer inner)
  -- "so an address turned there and back is the same"
  pub back : (tables : List (List AddressPair)) → OnceEach tables → (port a o : ℕ) → (out_of (table_of tables port) a ≡ Some o → in_to (table_of tables port) o ≡ Some a) × (in_to (table_of tables port) o ≡ Some a → out_of (table_of tables port) a ≡ Some o)
  -- and no other table has that outer address
  pub alone : (tables : List (List AddressPair)) → OnceEach tables → (i j a o : ℕ) → out_of (get_or tables i []) a ≡ Some o → stands outer_side (get_or tables j []) o ≡ true → i ≡ j
