-- A claim that is acted on, Start and Quiet: each address still goes to its lowest claimant. Assumes nothing.
use Rattle.std.specs.Prelude.{None}
use mathlib.Core.Path.{◌≡◌, refl, sym, ◌∙◌}
use mathlib.Core.Logic.{⊎_elim}
use mathlib.Core.Bool.{Bool, true, false, cond, true≢false, ◌&&◌}
use mathlib.Core.List.Memᴰ
use mathlib.Core.List.{List, [], Memᴰ}
use Prim.Native.Nat.{ℕ, ◌≤◌, ◌<◌}
use native.Mathlib.Decide.{ℕ_discrete}
use native.Mathlib.Omega.{arith}
use borrow.Author.Tests.{ne_eqb, eq-eqb, eqb-true, ltb-true, ltb-false}
use lib.Dec.{eqb, ltb}
use lib.ListN.{get_or, set, length-set, replicate, length-replicate, get_or-replicate}
use lib.Seq.{get_or-set_same, get_or-set_other}
use Rattle.identifier.specs.Identifier.{sa_of}
use Rattle.queue.specs.declared.Frame.{Frame}
use Rattle.addresses.specs.Table.{places, place_from, Place}
use Rattle.address_claims.specs.Claims.{moved_to, others_dropped, settled, claimed, contested}
use Rattle.address_claims.proofs.Places.{moved_length}
use Rattle.unit.specs.declared.Claim.{Claim}
use Rattle.unit.specs.declared.Claim.TheVariants.{Claiming, Claimed, Lost}
use Rattle.unit.specs.declared.Unit.{Unit}
use Rattle.unit.specs.Model.{Rest}
use Rattle.unit.specs.Own.{holds_address, is_own, is_claiming, moved, fresh_unit}
use Rattle.claims.specs.Claims.{Acted, claim_acted, held_under, started}
use Rattle.claims.specs.Claims.{contested as contested_own}
use Rattle.any_order.specs.Claimants.{Claimant, the_unit, with_unit, GoesTo, nobody, Stands, unstarted, keeps, loses}
use Rattle.any_order.proofs.Lowest.{Grown, grown_with_unit, grown_by_unit, elsewhere, lowest_now, lower}
use Rattle.any_order.proofs.Places.{contested_goes, under_lower, not_under, unit_free, beaten_goes}
use Rattle.any_order.proofs.Settled.{Settled, Comes, table_goes, one_with_unit, stands_still, comes_from_port, defended, displaced}

-- ---- whether an address is the unit's
both_true : (x y : Bool) → x && y ≡ true → (x ≡ true) × (y ≡ true)
both_true true y e = (refl, e)
both_true false y e = absurd (true≢false (sym e))

own_true : (own : Unit) (a : ℕ) → is_own own a ≡ true → (holds_address own.claim ≡ true) × (a ≡ own.address)
unfolding is_own
own_true own a h = let t = both_true (holds_address own.claim) (eqb a own.address) h in (t.0, eqb-true a own.address t.1)

own_false : (own : Unit) (a : ℕ) → is_own own a ≡ false → holds_address own.claim ≡ true → a ≡ own.address → ⊥
unfolding is_own
own_false own a h t e = true≢false (sym (rw (t, eq-eqb a own.address e)) ∙ h)

-- ---- what is done goes by a test
pub by_test : (P : Rest → Type 0) (x : Bool) (y z : Acted) → (x ≡ true → P y.rest) → (x ≡ false → P z.rest) → P (cond x y z).rest
by_test P true y z h k = h refl
by_test P false y z h k = k refl

-- ---- a claim
abbrev pub claimant_of : ℕ → Frame → Claimant
claimant_of port f = record { port = port; address = sa_of f.id; name = f.bytes }

-- the rest of the model, settled
abbrev pub SettledIn : Bool → ℕ → ℕ → List Claimant → Rest → Type 0
SettledIn b name preferred cs rest = Settled b name preferred cs rest.own rest.table

module _ {b : Bool} {name preferred : ℕ} {cs cs' : List Claimant} (rest : Rest) (port : ℕ) (f : Frame) (g : Grown cs (claimant_of port f) cs')
    (C : Comes name cs (claimant_of port f)) (S : SettledIn b name preferred cs rest) where
  real_more : (d : Claimant) → Memᴰ d cs' → 0 < d.port
  real_more d m = ⊎_elim (λ o. S.real d o) (λ s. rw s C.port) (g.only d m)

  inside_more : (d : Claimant) → Memᴰ d cs' → d.address < places
  inside_more d m = ⊎_elim (λ o. S.inside d o) (λ s. rw s C.small) (g.only d m)

  -- the table, if its address becomes the place p
  table_then : (p : Place) → GoesTo (with_unit b name preferred cs') (sa_of f.id) p → (a : ℕ) → a < places
      → GoesTo (with_unit b name preferred cs') a (get_or (moved_to f.bytes (sa_of f.id) p rest.table) a None)
  table_then p G =
      table_goes (grown_with_unit b name preferred g) p rest.table S.long C.small (one_with_unit b name preferred C) S.goes G

  -- not of the unit's address
  plain : is_own rest.own (sa_of f.id) ≡ false → Settled b name preferred cs' rest.own (claimed port (sa_of f.id) f.bytes rest.table)
  plain n =
      let p = get_or rest.table (sa_of f.id) None in
      let free = own_false rest.own (sa_of f.id) n in
      record {
        long = moved_length f.bytes (sa_of f.id) (contested port f.bytes p) rest.table ∙ S.long;
        goes =
            table_then (contested port f.bytes p)
            (contested_goes (grown_with_unit b name preferred g) refl (comes_from_port (sa_of f.id) S.real free S.stands) (S.goes (sa_of f.id) C.small));
        called = S.called;
        wants = S.wants;
        stands = stands_still g (λ h e. absurd (free h e)) S.stands;
        real = real_more;
        inside = inside_more;
      }

  -- of the unit's address, which it keeps where it is the lower
  defends : is_own rest.own (sa_of f.id) ≡ true → rest.own.name < f.bytes
      → Settled b name preferred cs' rest.own (others_dropped f.bytes (sa_of f.id) rest.table)
  defends t low =
      let p = get_or rest.table (sa_of f.id) None in
      let mine = own_true rest.own (sa_of f.id) t in
      let lower = S.called in
      record {
        long = moved_length f.bytes (sa_of f.id) p rest.table ∙ S.long;
        goes = table_then p (defended g S.stands mine.0 mine.1 (omega arith) (S.goes (sa_of f.id) C.small));
        called = S.called;
        wants = S.wants;
        stands = stands_still g (λ h e. omega arith) S.stands;
        real = real_more;
        inside = inside_more;
      }

  -- and else loses
  yields : is_own rest.own (sa_of f.id) ≡ true → f.bytes < name
      → Settled b name preferred cs' (moved rest.own Lost 254) (settled port (sa_of f.id) f.bytes rest.table)
  yields t low =
      let mine = own_true rest.own (sa_of f.id) t in
      let then = displaced g S.stands mine.0 mine.1 low in
      record {
        long = moved_length f.bytes (sa_of f.id) (place_from port f.bytes) rest.table ∙ S.long;
        goes = table_then (place_from port f.bytes) then.0;
        called = S.called;
        wants = S.wants;
        stands = then.1;
        real = real_more;
        inside = inside_more;
      }

  contest : is_own rest.own (sa_of f.id) ≡ true → SettledIn b name preferred cs' (contested_own rest port (sa_of f.id) f.bytes).rest
  unfolding contested_own
  contest t =
      by_test (SettledIn b name preferred cs') (ltb rest.own.name f.bytes) _ _
      (λ low. defends t (ltb-true rest.own.name f.bytes low))
      (λ high. yields t (lt_of (ltb-false rest.own.name f.bytes high)))
    where
      lt_of : f.bytes ≤ rest.own.name → f.bytes < name
      lt_of h = let n = C.other in let e = S.called in omega arith

  pub claim_settles : SettledIn b name preferred cs' (claim_acted rest port f).rest
  unfolding claim_acted
  claim_settles =
      rw (ne_eqb f.bytes rest.own.name (λ e. C.other (e ∙ S.called)), ne_eqb (sa_of f.id) 254 (λ e. omega (arith, C.small)))
      (by_test (SettledIn b name preferred cs') (is_own rest.own (sa_of f.id)) _ _ contest plain)

-- ---- Start: the unit is one more claimant
module _ {name preferred : ℕ} {cs : List Claimant} (rest : Rest) (good : preferred < places) (S : SettledIn false name preferred cs rest) where
  by_unit : Grown cs (the_unit name preferred) (with_unit true name preferred cs)
  by_unit = grown_by_unit name preferred cs

  -- its address is held under a lower NAME
  starts_lost : held_under rest.own.name (get_or rest.table rest.own.preferred None) ≡ true → Settled true name preferred cs (moved rest.own Lost 254) rest.table
  starts_lost h =
      let under : held_under name (get_or rest.table preferred None) ≡ true = rw (S.called, S.wants) at h in
      let d = under_lower name under (S.goes preferred good) in
      record {
        long = S.long;
        goes = λ a small.
            elim (ℕ_discrete a preferred) [
              | yes e ↦ rw e (beaten_goes by_unit refl d.0 d.1 d.2 (omega (arith, d.3)) (S.goes preferred good))
              | no ne ↦ elsewhere by_unit (λ e. ne (sym e)) (S.goes a small)
            ];
        called = S.called;
        wants = S.wants;
        stands = loses d.0 d.1 d.2 d.3;
        real = S.real;
        inside = S.inside;
      }

  -- it is free, or its holder is dropped
  starts_claiming : held_under rest.own.name (get_or rest.table rest.own.preferred None) ≡ false
      → Settled true name preferred cs (moved rest.own Claiming rest.own.preferred) (set rest.table rest.own.preferred None)
  starts_claiming h =
      let free : held_under name (get_or rest.table preferred None) ≡ false = rw (S.called, S.wants) at h in
      let low = not_under name S.real free (S.goes preferred good) in
      let long = S.long in
      rw S.wants
      record {
        long = length-set rest.table preferred None ∙ S.long;
        goes = λ a small.
            elim (ℕ_discrete a preferred) [
              | yes e ↦ rw (e, get_or-set_same rest.table preferred None None (omega arith), ← (unit_free name preferred)) (lower by_unit refl low)
              | no ne ↦ rw (get_or-set_other rest.table preferred a None None ne) (elsewhere by_unit (λ e. ne (sym e)) (S.goes a small))
            ];
        called = S.called;
        wants = refl;
        stands = keeps Claiming refl (lowest_now by_unit refl low);
        real = S.real;
        inside = S.inside;
      }

  pub start_settles : SettledIn true name preferred cs (started rest).rest
  unfolding started
  start_settles =
      by_test (SettledIn true name preferred cs) (held_under rest.own.name (get_or rest.table rest.own.preferred None)) _ _ starts_lost starts_claiming

-- ---- Quiet: nothing but the claim state moves
quieter : {b : Bool} {name preferred : ℕ} {cs : List Claimant} {claim : Claim} {address : ℕ} → is_claiming claim ≡ true → Stands name preferred cs b claim address
    → Stands name preferred cs b Claimed address
quieter h unstarted = absurd (true≢false (sym h))
quieter h (keeps claim _ L) = keeps Claimed refl L
quieter h (loses c m at low) = absurd (true≢false (sym h))

pub quiet_settles : {b : Bool} {name preferred : ℕ} {cs : List Claimant} (rest : Rest) → is_claiming rest.own.claim ≡ true → SettledIn b name preferred cs rest
    → Settled b name preferred cs (moved rest.own Claimed rest.own.address) rest.table
quiet_settles rest h S =
    record { long = S.long; goes = S.goes; called = S.called; wants = S.wants; stands = quieter h S.stands; real = S.real; inside = S.inside }

-- ---- power-on
pub fresh_settled : (ports name preferred : ℕ) → Settled false name preferred [] (fresh_unit name preferred ports) (replicate places None)
fresh_settled ports name preferred = record {
  long = length-replicate {A = Place} places None;
  goes = λ a small. rw (get_or-replicate {A = Place} places a None None small) (nobody (λ c m at. Memᴰ.not-nil m));
  called = refl;
  wants = refl;
  stands = unstarted;
  real = λ c m. absurd (Memᴰ.not-nil m);
  inside = λ c m. absurd (Memᴰ.not-nil m);
}
