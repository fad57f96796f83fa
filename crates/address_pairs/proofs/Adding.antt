-- What an entry is refused with, and what it does to the tables. Assumes nothing.
use mathlib.Core.Path.{◌≡◌, sym, ◌∙◌}
use mathlib.Core.Bool.{true, false, ◌&&◌}
use mathlib.Core.List.{List}
use Prim.Native.Nat.{ℕ, ◌-◌, ◌*◌, ◌≤◌, ◌<◌, max}
use native.Mathlib.Decide.{dec_lt}
use native.Mathlib.Omega.{arith}
use borrow.Author.Tests.{le-leb, lt-leb, lt-ltb, le-ltb, ltb-true, leb-false, not-false}
use lib.Dec.{ltb}
use lib.ListN.{length, take, drop, length-drop}
use lib.Seq.{length-take-le}
use Rattle.storage.proofs.Parts.{back, length_back}
use Rattle.std.specs.Prelude.{Ok}
use Rattle.checks.proofs.Tests.{both}
use Rattle.address_pairs.specs.AddressPairs.{AddressPair, inner_side, stands, any_outer, address_count, most_pairs, pairs_length, pairs_of, tables_of, table_of, full, refusal_of}
use Rattle.address_pairs.specs.Calls.{Appending, Adding}
use Rattle.address_pairs.proofs.Tables.{table_at, table_set}
use Rattle.address_pairs.proofs.ThereAndBack.{not_refused}

pub is_full : (table : List AddressPair) {n : ℕ} → n ≡ length table → most_pairs ≤ n → full table ≡ true
is_full table e h = le-leb most_pairs (length table) (omega arith)

pub not_full : (table : List AddressPair) {n : ℕ} → n ≡ length table → n < most_pairs → full table ≡ false
not_full table e h = lt-leb most_pairs (length table) (omega arith)

-- ---- the first that applies
module _ (tables : List (List AddressPair)) (port outer inner : ℕ) where
  pub outer_wrong : address_count ≤ outer → 32 ≡ refusal_of tables port outer inner
  unfolding refusal_of
  outer_wrong h = rw (le-ltb outer address_count h)

  module _ (o : outer < address_count) where
    pub inner_wrong : address_count ≤ inner → 32 ≡ refusal_of tables port outer inner
    unfolding refusal_of
    inner_wrong h = rw (lt-ltb outer address_count o, le-ltb inner address_count h)

    module _ (i : inner < address_count) where
      pub inner_twice : stands inner_side (table_of tables port) inner ≡ true → 30 ≡ refusal_of tables port outer inner
      unfolding refusal_of
      inner_twice h = rw (lt-ltb outer address_count o, lt-ltb inner address_count i, h)

      module _ (new : stands inner_side (table_of tables port) inner ≡ false) where
        pub outer_twice : any_outer tables outer ≡ true → 30 ≡ refusal_of tables port outer inner
        unfolding refusal_of
        outer_twice h = rw (lt-ltb outer address_count o, lt-ltb inner address_count i, new, h)

        module _ (nowhere : any_outer tables outer ≡ false) where
          pub table_full : full (table_of tables port) ≡ true → 31 ≡ refusal_of tables port outer inner
          unfolding refusal_of
          table_full h = rw (lt-ltb outer address_count o, lt-ltb inner address_count i, new, nowhere, h)

          pub none_applies_lem : full (table_of tables port) ≡ false → 0 ≡ refusal_of tables port outer inner
          unfolding refusal_of
          none_applies_lem h = rw (lt-ltb outer address_count o, lt-ltb inner address_count i, new, nowhere, h)

pub either_wrong : (tables : List (List AddressPair)) (port outer inner : ℕ) → address_count ≤ max outer inner → 32 ≡ refusal_of tables port outer inner
either_wrong tables port outer inner h =
    elim (dec_lt outer address_count) [
      | yes o ↦ inner_wrong tables port outer inner o (omega arith)
      | no n ↦ outer_wrong tables port outer inner (omega arith)
    ]

-- ---- an entry that is not refused
module _ (words : List ℕ) (port outer inner : ℕ) (from : 2 ≤ port) (fits : pairs_length * (port - 1) ≤ length words)
    (free : refusal_of (tables_of words) port outer inner ≡ 0) where
  abbrev part : List ℕ
  part = take pairs_length (drop (pairs_length * (port - 2)) words)

  part_long : length part ≡ pairs_length
  part_long = length-take-le pairs_length (drop (pairs_length * (port - 2)) words) (omega (arith, length-drop (pairs_length * (port - 2)) words))

  own : table_of (tables_of words) port ≡ pairs_of part
  own = table_at words (port - 2) (omega arith)

  pub may_append : (length part ≡ pairs_length) × (length (pairs_of part) < most_pairs) × (outer < address_count) × (inner < address_count)
  may_append =
      let n = not_refused (tables_of words) port outer inner free in
      let small = both (ltb outer address_count) (ltb inner address_count) (not-false (ltb outer address_count && ltb inner address_count) n.0) in (
        part_long,
        leb-false most_pairs (length (pairs_of part)) (rw own at n.2),
        ltb-true outer address_count small.0,
        ltb-true inner address_count small.1,
      )

  pub put_in : (ys : List ℕ) → Appending part ys outer inner → Adding words (back (pairs_length * (port - 2)) pairs_length words ys) port outer inner (Ok tt)
  put_in ys A =
      let ys-long : length ys ≡ pairs_length = A.long ∙ part_long in
      record {
        number = sym free;
        done = table_set words ys (port - 2) (omega arith) ys-long ∙ rw (A.pairs, own);
        refused = tt;
        long = length_back (pairs_length * (port - 2)) pairs_length words ys ys-long (omega arith);
      }
