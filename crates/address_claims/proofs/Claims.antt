-- What a claim can change, and to what: at its address the lowest NAME stays, every other place is as it was or loses the claimant. Assumes nothing.
use Rattle.std.specs.Prelude.{None, Some}
use mathlib.Core.Path.{◌≡◌, refl, ap, ◌∙◌}
use mathlib.Core.Logic.{◌⊎◌, inl, inr}
use mathlib.Core.Bool.{Bool, true, false, cond}
use mathlib.Core.List.{List}
use Prim.Native.Nat.{ℕ, ◌<◌, min}
use native.Mathlib.Decide.{dec_lt, ℕ_discrete}
use native.Mathlib.Omega.{arith}
use borrow.Author.Tests.{eq-eqb, ne_eqb, lt-ltb, le-ltb, le-leb, lt-leb}
use lib.ListN.{length, get_or}
use lib.Dec.{eqb}
use Rattle.address_claims.specs.declared.Event.TheVariants.{Beaten}
use Rattle.addresses.specs.Table.{place_from, held_by, Place, held}
use Rattle.address_claims.specs.Events.{event_number}
use Rattle.address_claims.specs.Claims.{without, contested, contest_event, claimed, claim_event}
use Rattle.address_claims.proofs.Places.{moved_here, moved_other}

-- ---- a place that a NAME leaves
pub without_gone : (name : ℕ) (place : Place) → held_by name (without name place) ≡ false
unfolding without held_by
without_gone name None = refl
without_gone name (Some holder) = by (eqb holder.name name) refl
  where
    by : (b : Bool) → eqb holder.name name ≡ b → held_by name (cond b None (Some holder)) ≡ false
    by true e = refl
    by false e = e

-- it is as it was, or free where the NAME held it
pub without_cases : (name : ℕ) (place : Place) → (without name place ≡ place) ⊎ ((held_by name place ≡ true) × (without name place ≡ None))
unfolding without
without_cases name place = by (held_by name place) refl
  where
    by : (b : Bool) → held_by name place ≡ b → (cond b None place ≡ place) ⊎ ((held_by name place ≡ true) × (cond b None place ≡ None))
    by true e = inr (e, refl)
    by false e = inl refl

-- ---- a place that a NAME claims
-- a claim is beaten by a lower NAME alone
pub beaten_by_lower : (name from holder : ℕ) → contest_event name (held from holder) ≡ Beaten → holder < name
unfolding contest_event
beaten_by_lower name from holder e =
    elim (dec_lt holder name) [
      | yes h ↦ h
      | no h ↦
          elim (ℕ_discrete name holder) [
            | yes same ↦ absurd (omega (arith, ap event_number (rw (eq-eqb name holder same) at e)))
            | no other ↦ absurd (omega (arith, ap event_number (rw (ne_eqb name holder other, lt-ltb name holder (omega arith)) at e)))
          ]
    ]

module _ (port name : ℕ) where
  -- a beaten claim leaves the place
  pub beaten_leaves : (place : Place) → contest_event name place ≡ Beaten → contested port name place ≡ place
  unfolding contested contest_event
  beaten_leaves None e = absurd (omega (arith, ap event_number e))
  beaten_leaves (Some holder) e = rw (lt-leb name holder.name (beaten_by_lower name holder.port holder.name e))

  -- any other claim records the claimant
  pub unbeaten_records : (place : Place) → (contest_event name place ≡ Beaten → ⊥) → contested port name place ≡ place_from port name
  unfolding contested contest_event
  unbeaten_records None ne = refl
  unbeaten_records (Some holder) ne =
      elim (dec_lt holder.name name) [
        | yes h ↦ absurd (ne (rw (ne_eqb name holder.name (λ e. omega arith), le-ltb name holder.name (omega arith))))
        | no h ↦ rw (le-leb name holder.name (omega arith))
      ]

-- a port that is not 0 is a holder's
pub placed : (port name : ℕ) → 0 < port → place_from port name ≡ held port name
unfolding place_from
placed port name h = rw (ne_eqb port 0 (λ e. omega arith))

-- the lowest NAME stays, the claimant's or the holder's
pub lowest_stays : (port name from holder : ℕ) → 0 < port → held_by (min name holder) (contested port name (held from holder)) ≡ true
unfolding contested held_by
lowest_stays port name from holder real =
    elim (dec_lt holder name) [
      | yes h ↦ rw (lt-leb name holder h) (eq-eqb holder (min name holder) (omega arith))
      | no h ↦ rw (le-leb name holder (omega arith), placed port name real) (eq-eqb name (min name holder) (omega arith))
    ]

-- ---- a claim
module _ (port address name : ℕ) (table : List Place) where
  -- after a claim that is not beaten the NAME stands at the address, with its arrival port
  pub stands_after_claim : 0 < port → address < length table → (claim_event address name table ≡ Beaten → ⊥) → get_or (claimed port address name table) address None ≡ held port name
  stands_after_claim real in_table not-beaten =
      let place = get_or table address None in
      moved_here name address (contested port name place) table in_table ∙ unbeaten_records port name place not-beaten ∙ placed port name real

  -- every other place is as it was, or free where the NAME held it
  pub other_places : (i : ℕ) → (i ≡ address → ⊥) → (get_or (claimed port address name table) i None ≡ get_or table i None) ⊎ ((held_by name (get_or table i None) ≡ true) × (get_or (claimed port address name table) i None ≡ None))
  other_places i ne = rw (moved_other name address (contested port name (get_or table address None)) table i ne) (without_cases name (get_or table i None))
