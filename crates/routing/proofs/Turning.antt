-- Which address turns, and what an entry makes of it. Assumes nothing.
use mathlib.Core.Path.{◌≡◌, refl, ap, ◌∙◌}
use mathlib.Core.Bool.{true, false, not, ◌&&◌}
use mathlib.Core.List.{List}
use Rattle.std.specs.Prelude.{Option, None, Some}
use Prim.Native.Nat.{ℕ}
use native.Mathlib.Omega.{arith}
use borrow.Author.Tests.{eqb-true, eqb-false, not-true}
use lib.Dec.{eqb}
use Rattle.checks.proofs.Tests.{both}
use Rattle.identifier.specs.Identifier.{ps_of, sa_of, has_destination}
use Rattle.identifier.specs.Turning.{with_source, with_destination}
use Rattle.address_pairs.specs.AddressPairs.{AddressPair, out_of, in_to, table_of}
use Rattle.routing.specs.Routing.{is_claim, turns_source, turns_destination, by_entry, turn, turned}

-- ---- which address turns
pub source_ports : (from to : ℕ) → turns_source from to ≡ true → (from ≡ 1 → ⊥) × (to ≡ 1)
unfolding turns_source
source_ports from to e =
    let p = both (not (eqb from 1)) (eqb to 1) e in
    (eqb-false from 1 (not-true (eqb from 1) p.0), eqb-true to 1 p.1)

pub destination_ports : (from to id : ℕ) → turns_destination from to id ≡ true
    → (from ≡ 1) × (to ≡ 1 → ⊥) × (has_destination id ≡ true) × (ps_of id ≡ 255 → ⊥)
unfolding turns_destination
destination_ports from to id e =
    let p = both (eqb from 1 && not (eqb to 1)) (has_destination id && not (eqb (ps_of id) 255)) e in
    let q = both (eqb from 1) (not (eqb to 1)) p.0 in
    let d = both (has_destination id) (not (eqb (ps_of id) 255)) p.1 in (
      eqb-true from 1 q.0,
      eqb-false to 1 (not-true (eqb to 1) q.1),
      d.0,
      eqb-false (ps_of id) 255 (not-true (eqb (ps_of id) 255) d.1),
    )

-- ---- what an entry makes of it
pub by_none : (change : ℕ → ℕ) {o : Option ℕ} → None ≡ o → None ≡ by_entry change o
by_none change e = rw (← e)

pub by_some : (change : ℕ → ℕ) {o : Option ℕ} {a r : ℕ} → Some a ≡ o → r ≡ change a → Some r ≡ by_entry change o
by_some change {o} {a} {r} e v = ap {B = Option ℕ} Some v ∙ rw (← e)

-- and back: what it was made from
pub record Was (change : ℕ → ℕ) (o : Option ℕ) (r : ℕ) : Type 0 where
  pub address : ℕ
  pub entry : o ≡ Some address
  pub made : change address ≡ r

pub was_some : (change : ℕ → ℕ) (o : Option ℕ) {r : ℕ} → by_entry change o ≡ Some r → Was change o r
was_some change None {r} e = let z : ◌≡◌ {A = ℕ} 0 1 = cc in absurd (omega arith)
was_some change (Some a) {r} e = let s : change a ≡ r = cc in record { address = a; entry = refl; made = s }

-- ---- the three cases
module _ (tables : List (List AddressPair)) (from to id : ℕ) where
  pub by_source : turns_source from to ≡ true → turn tables from to id ≡ by_entry (with_source id) (out_of (table_of tables from) (sa_of id))
  unfolding turn
  by_source s = rw s

  module _ (not-source : turns_source from to ≡ false) where
    pub by_destination : turns_destination from to id ≡ true → turn tables from to id ≡ by_entry (with_destination id) (in_to (table_of tables to) (ps_of id))
    unfolding turn
    by_destination d = rw (not-source, d)

    pub as_it_came : turns_destination from to id ≡ false → turn tables from to id ≡ Some id
    unfolding turn
    as_it_came d = rw (not-source, d)

-- ---- claims
pub claim_not : (tables : List (List AddressPair)) (from to id len : ℕ) → is_claim id len ≡ true → turned tables from to id len ≡ None
unfolding turned
claim_not tables from to id len c = rw c

pub no_claim : (tables : List (List AddressPair)) (from to id len : ℕ) → is_claim id len ≡ false → turned tables from to id len ≡ turn tables from to id
unfolding turned
no_claim tables from to id len c = rw c
