-- Ticket 14, "Nothing else in a frame turns", field by field; and what is answered comes back. Of the tables of any words.
-- Proved as `laws` in proofs/Laws.antt.
-- Assumes nothing.
use Rattle.std.specs.Prelude.{ℕ, ◌^◌, ◌≤◌, ◌<◌, true, false, ◌≡◌, List, None, Some}
use Rattle.identifier.specs.Identifier.{priority_of, extended_data_page_of, data_page_of, pf_of, ps_of, sa_of, pgn_of, wrong_source}
use Rattle.identifier.specs.Turning.{with_destination}
use Rattle.address_pairs.specs.AddressPairs.{AddressPair, out_of, in_to, tables_of, table_of}
use Rattle.address_pairs.specs.ThereAndBack.{OnceEach}
use Rattle.routing.specs.Routing.{is_claim, turns_source, turns_destination, turn, turned}

-- a frame that came with the identifier `id` crosses with the identifier r
pub record FieldByField (tables : List (List AddressPair)) (from to id r : ℕ) : Type 0 where
  pub priority : priority_of r ≡ priority_of id
  pub extended_data_page : extended_data_page_of r ≡ extended_data_page_of id
  pub data_page : data_page_of r ≡ data_page_of id
  pub pf : pf_of r ≡ pf_of id
  pub ps : turns_destination from to id ≡ false → ps_of r ≡ ps_of id
  pub ps_turned : turns_destination from to id ≡ true → in_to (table_of tables to) (ps_of id) ≡ Some (ps_of r)
  pub sa : turns_source from to ≡ false → sa_of r ≡ sa_of id
  pub sa_turned : turns_source from to ≡ true → out_of (table_of tables from) (sa_of id) ≡ Some (sa_of r)
  -- so it has the same PGN, and what is not refused with 3 or 5 is not after turning
  pub pgn : pgn_of r ≡ pgn_of id
  pub small : id < 2 ^ 29 → r < 2 ^ 29
  pub good_source : wrong_source id ≡ false → wrong_source r ≡ false

pub record Laws : Type 0 where
  -- no claim crosses, on any pair; every other frame is turned
  pub claim : (tables : List (List AddressPair)) (from to id len : ℕ)
      → is_claim id len ≡ true → turned tables from to id len ≡ None
  pub other : (tables : List (List AddressPair)) (from to id len : ℕ)
      → is_claim id len ≡ false → turned tables from to id len ≡ turn tables from to id
  -- what crosses
  pub crosses : (words : List ℕ) (from to id r : ℕ) → turn (tables_of words) from to id ≡ Some r
      → FieldByField (tables_of words) from to id r
  -- neither turns: as it came
  pub unturned : (tables : List (List AddressPair)) (from to id : ℕ)
      → turns_source from to ≡ false → turns_destination from to id ≡ false → turn tables from to id ≡ Some id
  -- what port q sends to port 1, answered to the address that it has there, goes to port q with the address that it had
  pub answered : (words : List ℕ) → OnceEach (tables_of words) → (q id r reply : ℕ) → 2 ≤ q
      → turn (tables_of words) q 1 id ≡ Some r → turns_destination 1 q reply ≡ true → ps_of reply ≡ sa_of r
      → turn (tables_of words) 1 q reply ≡ Some (with_destination reply (sa_of id))
  -- and to no other
  pub alone : (words : List ℕ) → OnceEach (tables_of words) → (q id r reply other : ℕ) → 2 ≤ q
      → turn (tables_of words) q 1 id ≡ Some r → turns_destination 1 q reply ≡ true → ps_of reply ≡ sa_of r
      → 2 ≤ other → (other ≡ q → ⊥) → turn (tables_of words) 1 other reply ≡ None
