-- Each premise is needed: the other premises are tested, and the tables computed from the book. Assumes nothing.
use Rattle.std.specs.Prelude.{None, Some}
use mathlib.Core.Path.{◌≡◌, refl, sym, ap, ◌∙◌}
use mathlib.Core.List.Memᴰ
use mathlib.Core.List.Permᴰ
use mathlib.Core.List.{List, [], ◌∷◌}
use Prim.Native.Nat.{ℕ, ◌<◌}
use native.Mathlib.Omega.{arith}
use lib.ListN.{get_or}
use Rattle.storage.specs.Bytes.{packed}
use Rattle.identifier.specs.Identifier.{pgn_of, wrong_source, sent_without_address}
use Rattle.addresses.specs.Table.{place_from, held_by, Place, held}
use Rattle.address_claims.proofs.Claims.{placed}
use Rattle.address_claims.specs.Claims.{without, withdrawn, moved_to, contested}
use Rattle.unit.specs.Own.{is_own}
use Rattle.claims.specs.Claims.{is_claim as is_claim_frame, claim_acted, frame_acted, started}
use Rattle.claims.specs.Claims.{contested as contested_own}
use Rattle.checks.specs.Ports.{is_port}
use Rattle.unit.specs.Count.{pair_count}
use Rattle.refusals.specs.Refusals.{frame_refusal, start_refusal}
use Rattle.bridge.specs.Calls.{Call, refusal, rest_after, performed, next}
use Rattle.demand_3.specs.Demand3.{model_after}
use Rattle.any_order.specs.Claimants.{Claimant, GoesTo, nobody, lowest}
use Rattle.any_order.specs.Mornings.{is_claim, claim_of, Unrefused, OneAddress, OnePort, NoneWithdraws, NoneIsTheUnit}
use Rattle.any_order.specs.AnyOrder.{Morning, table_in}
use Rattle.any_order.specs.Needed.{ports, narrow, wide, from_port5, five_then_six, six_then_five, port2_then3, port3_then2, claims_then_withdraws, withdraws_then_claims, units_name, unstarted_unit, started_unit, Needed}
use Rattle.any_order.proofs.AnyOrder.{rest_in_lem}
use Rattle.any_order.proofs.Tests.{test, all, but, place, tested_but, all_tested, every, every_two, implies, passes, agree_on_address, agree_on_port}

-- what the table holds at an address after a morning
found : {name preferred : ℕ} {ks : List Call} {v : List ℕ} (a : ℕ) (p : Place) → Morning ports name preferred ks v
    → get_or (model_after ports name preferred ks).rest.table a None ≡ p → get_or (table_in ports v) a None ≡ p
found a p M e = ap (λ r. get_or r.table a None) (rest_in_lem M) ∙ e

module _ {name preferred : ℕ} {ks ks' : List Call} {v v' : List ℕ} (a : ℕ) {p p' : Place} where
  -- two places that differ
  differ : get_or (model_after ports name preferred ks).rest.table a None ≡ p → get_or (model_after ports name preferred ks').rest.table a None ≡ p' → (p ≡ p' → ⊥)
      → Morning ports name preferred ks v → Morning ports name preferred ks' v' → table_in ports v ≡ table_in ports v' → ⊥
  differ e e' ne M M' same = ne (sym (found a p M e) ∙ ap (λ t. get_or t a None) same ∙ found a p' M' e')

-- the port that a place is held on
abbrev port_in : Place → ℕ
port_in None = 0
port_in (Some held) = held.port

free_held : (port name : ℕ) → None ≡ held port name → ⊥
free_held port name e = let z : ◌≡◌ {A = ℕ} 0 1 = cc in omega arith

-- an address that one claimant claims, from a port, is not free
not_free : (c : Claimant) {p : Place} → 0 < c.port → GoesTo (c ∷ []) c.address p → p ≡ None → ⊥
not_free c real (nobody n) e = n c (Memᴰ.head refl) refl
not_free c real (lowest d L) e =
    let s : d ≡ c = Memᴰ.eq_of_singleton L.among in
    free_held d.port d.name (sym e ∙ placed d.port d.name (rw s real))

pub needed : Needed
unfolding pair_count is_port next performed refusal rest_after frame_refusal start_refusal wrong_source sent_without_address pgn_of packed frame_acted is_claim_frame claim_acted contested_own is_own moved_to withdrawn without held_by contested place_from started test all but place every every_two implies passes agree_on_address agree_on_port is_claim claim_of
needed = record {
  unrefused = record {
    premises = tested_but Unrefused ports 8 narrow refl;
    premises' = tested_but Unrefused ports 8 wide refl;
    begin = refl;
    order = Permᴰ.cons refl Permᴰ.nil;
    tables = differ 5 {p = held 2 9} {p' = None} refl refl (λ e. free_held 2 9 (sym e));
  };
  unrefused_misses = record {
    premises = tested_but Unrefused ports 8 from_port5 refl;
    outcome = λ M O. not_free (record { port = 5; address = 5; name = 9 }) (omega arith) (O.table 5 (omega arith)) (found 5 None M refl);
  };
  one_address = record {
    premises = tested_but OneAddress ports 8 five_then_six refl;
    premises' = tested_but OneAddress ports 8 six_then_five refl;
    begin = refl;
    order = Permᴰ.swap refl refl;
    tables = differ 5 {p = None} {p' = held 2 9} refl refl (free_held 2 9);
  };
  one_port = record {
    premises = tested_but OnePort ports 8 port2_then3 refl;
    premises' = tested_but OnePort ports 8 port3_then2 refl;
    begin = refl;
    order = Permᴰ.swap refl refl;
    tables = differ 5 {p = held 3 9} {p' = held 2 9} refl refl (λ e. let z : ◌≡◌ {A = ℕ} 3 2 = ap port_in e in omega arith);
  };
  none_withdraws = record {
    premises = tested_but NoneWithdraws ports 8 claims_then_withdraws refl;
    premises' = tested_but NoneWithdraws ports 8 withdraws_then_claims refl;
    begin = refl;
    order = Permᴰ.swap refl refl;
    tables = differ 5 {p = None} {p' = held 2 9} refl refl (free_held 2 9);
  };
  none_is_the_unit = record {
    premises = tested_but NoneIsTheUnit ports 8 units_name refl;
    outcome = λ M O. not_free (record { port = 2; address = 5; name = 8 }) (omega arith) (O.table 5 (omega arith)) (found 5 None M refl);
  };
  begin = (
    all_tested ports 8 unstarted_unit refl,
    all_tested ports 8 started_unit refl,
    differ 7 {p = held 2 9} {p' = None} refl refl (λ e. free_held 2 9 (sym e)),
  );
}
