-- Nothing but the address turns; and what is answered comes back. Assumes nothing.
use mathlib.Core.Path.{◌≡◌, refl, sym, ap, ◌∙◌}
use mathlib.Core.Bool.{Bool, true, false, true≢false}
use mathlib.Core.List.{List}
use Rattle.std.specs.Prelude.{Option, None, Some}
use Prim.Native.Nat.{ℕ, ◌-◌, ◌^◌, ◌≤◌, ◌<◌}
use native.Mathlib.Omega.{arith}
use borrow.Author.Tests.{ne_eqb}
use Rattle.identifier.specs.Identifier.{ps_of, sa_of, has_destination, sent_without_address, wrong_source}
use Rattle.identifier.specs.Picture.{Fields, fields_of}
use Rattle.identifier.specs.Turning.{with_source, with_destination, sa_set, ps_set}
use Rattle.identifier.proofs.Turning.{turning}
use Rattle.address_pairs.specs.AddressPairs.{AddressPair, inner_side, outer_side, stands, out_of, in_to, address_count, tables_of, table_of}
use Rattle.address_pairs.specs.ThereAndBack.{OnceEach}
use Rattle.address_pairs.proofs.Looking.{given}
use Rattle.address_pairs.proofs.Bounds.{gives_small}
use Rattle.address_pairs.proofs.ThereAndBack.{there_and_back}
use Rattle.routing.specs.Routing.{turns_source, turns_destination, turn}
use Rattle.routing.specs.Laws.{FieldByField, Laws}
use Rattle.routing.proofs.Turning.{source_ports, destination_ports, Was, was_some, by_source, by_destination, as_it_came, claim_not, no_claim}

never : {A : Type 0} {b : Bool} → b ≡ true → b ≡ false → A
never e f = absurd (true≢false (sym e ∙ f))

-- ---- whose source is good
address_good : (r : ℕ) → sa_of r < address_count → wrong_source r ≡ false
unfolding wrong_source
address_good r h = rw (ne_eqb (sa_of r) 255 (λ z. omega (arith, z, h)), ne_eqb (sa_of r) 254 (λ z. omega (arith, z, h)))

sent_same : (id o : ℕ) → o < address_count → has_destination id ≡ true → (ps_of id ≡ 255 → ⊥)
    → sent_without_address (with_destination id o) ≡ sent_without_address id
unfolding sent_without_address
sent_same id o h d ne =
    let b : o < 2 ^ 8 = omega arith in
    let p : ps_of (with_destination id o) ≡ o = ap (λ (x : Fields). x.ps) (turning.destination id o b) in
    rw (
      turning.destination_pgn id o b d,
      ne_eqb (ps_of (with_destination id o)) 255 (λ z. omega (arith, z, p, h)),
      ne_eqb (ps_of id) 255 ne,
    )

destination_good : (id o : ℕ) → o < address_count → has_destination id ≡ true → (ps_of id ≡ 255 → ⊥)
    → wrong_source id ≡ false → wrong_source (with_destination id o) ≡ false
unfolding wrong_source
destination_good id o h d ne w =
    let b : o < 2 ^ 8 = omega arith in
    let s : sa_of (with_destination id o) ≡ sa_of id = ap (λ (x : Fields). x.sa) (turning.destination id o b) in
    rw (s, sent_same id o h d ne) w

-- ---- field by field
module _ (words : List ℕ) (from to id : ℕ) where
  abbrev tables : List (List AddressPair)
  tables = tables_of words

  source_fields : (o : ℕ) → turns_source from to ≡ true → out_of (table_of tables from) (sa_of id) ≡ Some o → FieldByField tables from to id (with_source id o)
  source_fields o s e =
      let h : o < address_count = gives_small words (from - 2) inner_side outer_side (sa_of id) o e in
      let b : o < 2 ^ 8 = omega arith in
      let x : fields_of (with_source id o) ≡ sa_set (fields_of id) o = turning.source id o b in
      let a : sa_of (with_source id o) ≡ o = ap (λ (y : Fields). y.sa) x in
      record {
        priority = ap (λ (y : Fields). y.priority) x;
        extended_data_page = ap (λ (y : Fields). y.extended_data_page) x;
        data_page = ap (λ (y : Fields). y.data_page) x;
        pf = ap (λ (y : Fields). y.pf) x;
        ps = λ _. ap (λ (y : Fields). y.ps) x;
        ps_turned = λ d. absurd ((source_ports from to s).0 (destination_ports from to id d).0);
        sa = λ f. never s f;
        sa_turned = λ _. e ∙ ap {B = Option ℕ} Some (sym a);
        pgn = turning.source_pgn id o b;
        small = turning.source_small id o b;
        good_source = λ _. address_good (with_source id o) (omega (arith, a, h));
      }

  destination_fields : (o : ℕ) → turns_source from to ≡ false → turns_destination from to id ≡ true → in_to (table_of tables to) (ps_of id) ≡ Some o
      → FieldByField tables from to id (with_destination id o)
  destination_fields o s d e =
      let h : o < address_count = gives_small words (to - 2) outer_side inner_side (ps_of id) o e in
      let b : o < 2 ^ 8 = omega arith in
      let x : fields_of (with_destination id o) ≡ ps_set (fields_of id) o = turning.destination id o b in
      let p = destination_ports from to id d in
      record {
        priority = ap (λ (y : Fields). y.priority) x;
        extended_data_page = ap (λ (y : Fields). y.extended_data_page) x;
        data_page = ap (λ (y : Fields). y.data_page) x;
        pf = ap (λ (y : Fields). y.pf) x;
        ps = λ f. never d f;
        ps_turned = λ _. e ∙ ap {B = Option ℕ} Some (sym (ap (λ (y : Fields). y.ps) x));
        sa = λ _. ap (λ (y : Fields). y.sa) x;
        sa_turned = λ t. never t s;
        pgn = turning.destination_pgn id o b p.2;
        small = turning.destination_small id o b;
        good_source = destination_good id o h p.2 p.3;
      }

  same_fields : turns_source from to ≡ false → turns_destination from to id ≡ false → FieldByField tables from to id id
  same_fields s d = record {
    priority = refl;
    extended_data_page = refl;
    data_page = refl;
    pf = refl;
    ps = λ _. refl;
    ps_turned = λ t. never t d;
    sa = λ _. refl;
    sa_turned = λ t. never t s;
    pgn = refl;
    small = λ h. h;
    good_source = λ w. w;
  }

  crosses : (r : ℕ) → turn tables from to id ≡ Some r → FieldByField tables from to id r
  crosses r e = go (turns_source from to) refl (turns_destination from to id) refl
    where
      go : (s : Bool) → turns_source from to ≡ s → (d : Bool) → turns_destination from to id ≡ d → FieldByField tables from to id r
      go true s d _ =
          let w = was_some (with_source id) (out_of (table_of tables from) (sa_of id)) (sym (by_source tables from to id s) ∙ e) in
          rw (← w.made) (source_fields w.address s w.entry)
      go false s true d =
          let w = was_some (with_destination id) (in_to (table_of tables to) (ps_of id)) (sym (by_destination tables from to id s d) ∙ e) in
          rw (← w.made) (destination_fields w.address s d w.entry)
      go false s false d =
          let t = as_it_came tables from to id s d in
          let i : id ≡ r = cc in
          rw (← i) (same_fields s d)

-- ---- what is answered
towards : (q : ℕ) → 2 ≤ q → turns_source q 1 ≡ true
unfolding turns_source
towards q h = rw (ne_eqb q 1 (λ z. omega (arith, z, h)))

away : (q : ℕ) → turns_source 1 q ≡ false
unfolding turns_source
away q = refl

from_one : (to id : ℕ) → 2 ≤ to → has_destination id ≡ true → (ps_of id ≡ 255 → ⊥) → turns_destination 1 to id ≡ true
unfolding turns_destination
from_one to id h d ne = rw (ne_eqb to 1 (λ z. omega (arith, z, h)), d, ne_eqb (ps_of id) 255 ne)

module _ (words : List ℕ) (O : OnceEach (tables_of words)) (q id r reply : ℕ) (port : 2 ≤ q) (sent : turn (tables_of words) q 1 id ≡ Some r)
    (turns : turns_destination 1 q reply ≡ true) (to-it : ps_of reply ≡ sa_of r) where
  abbrev all : List (List AddressPair)
  all = tables_of words

  was : Was (with_source id) (out_of (table_of all q) (sa_of id)) r
  was = was_some (with_source id) (out_of (table_of all q) (sa_of id)) (sym (by_source all q 1 id (towards q port)) ∙ sent)

  its_outer : ps_of reply ≡ was.address
  its_outer =
      let h : was.address < address_count = gives_small words (q - 2) inner_side outer_side (sa_of id) was.address was.entry in
      let b : was.address < 2 ^ 8 = omega arith in
      to-it ∙ ap (λ (x : ℕ). sa_of x) (sym was.made) ∙ ap (λ (y : Fields). y.sa) (turning.source id was.address b)

  answered : turn all 1 q reply ≡ Some (with_destination reply (sa_of id))
  answered =
      by_destination all 1 q reply (away q) turns
      ∙ rw (its_outer, (there_and_back.back all O q (sa_of id) was.address).0 was.entry)

  module _ (other : ℕ) (from : 2 ≤ other) (ne : other ≡ q → ⊥) where
    nothing : (o : Option ℕ) → in_to (table_of all other) (ps_of reply) ≡ o → in_to (table_of all other) (ps_of reply) ≡ None
    nothing None e = e
    nothing (Some a) e =
        let there : stands outer_side (table_of all other) was.address ≡ true =
        rw its_outer at (sym (given outer_side inner_side (table_of all other) (ps_of reply) a (sym e))) in
        let same = there_and_back.alone all O (q - 2) (other - 2) (sa_of id) was.address was.entry there in
        absurd (ne (omega (arith, same, port, from)))

    alone : turn all 1 other reply ≡ None
    alone =
        let d = destination_ports 1 q reply turns in
        by_destination all 1 other reply (away other) (from_one other reply from d.2 d.3)
        ∙ rw (nothing (in_to (table_of all other) (ps_of reply)) refl)

pub laws : Laws
laws = record {
  claim = claim_not;
  other = no_claim;
  crosses = crosses;
  unturned = as_it_came;
  answered = answered;
  alone = λ words O q id r reply other port sent turns to-it from ne. alone words O q id r reply port sent turns to-it other from ne;
}
