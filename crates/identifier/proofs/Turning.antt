-- An identifier with another address: every other field stays. Assumes nothing.
use mathlib.Core.Path.{◌≡◌, sym, ◌∙◌}
use mathlib.Core.Bool.{true}
use Prim.Native.Nat.{ℕ, ◌+◌, ◌*◌, ◌/◌, ◌%◌, ◌^◌, ◌<◌}
use native.Mathlib.Omega.{arith}
use Rattle.identifier.specs.Identifier.{priority_of, extended_data_page_of, data_page_of, pf_of, ps_of, sa_of, has_destination, pgn_of, destination_of}
use Rattle.identifier.specs.Picture.{fields_of}
use Rattle.identifier.specs.Turning.{with_source, with_destination, sa_set, ps_set, Turning}

-- ---- by what stands above
source_by : (id address : ℕ) → with_source id address ≡ id / 2 ^ 8 * 2 ^ 8 + address
unfolding with_source
source_by id address = omega arith

destination_by : (id address : ℕ) → with_destination id address ≡ id / 2 ^ 16 * 2 ^ 16 + address * 2 ^ 8 + id % 2 ^ 8
unfolding with_destination
destination_by id address = omega arith

-- ---- another SA
module _ (id address : ℕ) (byte : address < 2 ^ 8) where
  -- what stands above SA stays
  above : with_source id address / 2 ^ 8 ≡ id / 2 ^ 8
  unfolding with_source
  above = omega arith

  sa_is : sa_of (with_source id address) ≡ address
  unfolding with_source
  sa_is = omega arith

  ps_stays : ps_of (with_source id address) ≡ ps_of id
  ps_stays = omega (arith, above)

  pf_stays : pf_of (with_source id address) ≡ pf_of id
  pf_stays = omega (arith, above)

  data_page_stays : data_page_of (with_source id address) ≡ data_page_of id
  data_page_stays = omega (arith, above)

  extended_data_page_stays : extended_data_page_of (with_source id address) ≡ extended_data_page_of id
  extended_data_page_stays = omega (arith, above)

  priority_stays : priority_of (with_source id address) ≡ priority_of id
  priority_stays = omega (arith, above)

  source : fields_of (with_source id address) ≡ sa_set (fields_of id) address
  source = rw (priority_stays, extended_data_page_stays, data_page_stays, pf_stays, ps_stays, sa_is)

  source_small : id < 2 ^ 29 → with_source id address < 2 ^ 29
  source_small h = omega (arith, above)

  source_pgn : pgn_of (with_source id address) ≡ pgn_of id
  unfolding pgn_of
  source_pgn = rw (extended_data_page_stays, data_page_stays, pf_stays, ps_stays)

  source_again : (last : ℕ) → with_source (with_source id address) last ≡ with_source id last
  source_again last = source_by (with_source id address) last ∙ rw above (sym (source_by id last))

-- ---- another PS
module _ (id address : ℕ) (byte : address < 2 ^ 8) where
  high : with_destination id address / 2 ^ 16 ≡ id / 2 ^ 16
  unfolding with_destination
  high = omega arith

  middle : with_destination id address / 2 ^ 8 ≡ id / 2 ^ 16 * 2 ^ 8 + address
  middle = omega (arith, destination_by id address)

  ps_is : ps_of (with_destination id address) ≡ address
  ps_is = omega (arith, middle)

  sa_stays : sa_of (with_destination id address) ≡ sa_of id
  unfolding with_destination
  sa_stays = omega arith

  pf_keeps : pf_of (with_destination id address) ≡ pf_of id
  pf_keeps = omega (arith, high)

  data_page_keeps : data_page_of (with_destination id address) ≡ data_page_of id
  data_page_keeps = omega (arith, high)

  extended_data_page_keeps : extended_data_page_of (with_destination id address) ≡ extended_data_page_of id
  extended_data_page_keeps = omega (arith, high)

  priority_keeps : priority_of (with_destination id address) ≡ priority_of id
  priority_keeps = omega (arith, high)

  destination : fields_of (with_destination id address) ≡ ps_set (fields_of id) address
  destination = rw (priority_keeps, extended_data_page_keeps, data_page_keeps, pf_keeps, ps_is, sa_stays)

  destination_small : id < 2 ^ 29 → with_destination id address < 2 ^ 29
  destination_small h = omega (arith, high)

  module _ (to_one : has_destination id ≡ true) where
    destination_pgn : pgn_of (with_destination id address) ≡ pgn_of id
    unfolding pgn_of
    destination_pgn = rw (extended_data_page_keeps, data_page_keeps, pf_keeps, to_one)

    destination_is : destination_of (with_destination id address) ≡ address
    unfolding destination_of
    destination_is = rw (pf_keeps, to_one, ps_is)

  destination_again : (last : ℕ) → with_destination (with_destination id address) last ≡ with_destination id last
  destination_again last =
      destination_by (with_destination id address) last ∙ rw (high, sa_stays) (sym (destination_by id last))

-- ---- the address that it has
source_same : (id : ℕ) → with_source id (sa_of id) ≡ id
unfolding with_source
source_same id = omega arith

destination_same : (id : ℕ) → with_destination id (ps_of id) ≡ id
unfolding with_destination
destination_same id = omega arith

pub turning : Turning
turning = record {
  source = source;
  destination = destination;
  source_small = source_small;
  destination_small = destination_small;
  source_pgn = source_pgn;
  destination_pgn = destination_pgn;
  destination_is = destination_is;
  source_again = λ id address last h. source_again id address h last;
  source_same = source_same;
  destination_again = λ id address last h. destination_again id address h last;
  destination_same = destination_same;
}
