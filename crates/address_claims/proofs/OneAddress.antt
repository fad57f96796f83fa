-- A NAME stands at one address at most, and every call keeps that: the claimant's other addresses go, and no other NAME comes to an address. Assumes nothing.
use Rattle.std.specs.Prelude.{None, Some}
use mathlib.Core.Path.{◌≡◌, refl, sym, ◌∙◌}
use mathlib.Core.Logic.{⊎_elim}
use mathlib.Core.Bool.{Bool, true, false, cond, true≢false}
use mathlib.Core.List.{List, [], ◌∷◌}
use Prim.Native.Nat.{ℕ, zero, suc, ◌<◌}
use native.Mathlib.Decide.{ℕ_discrete}
use borrow.Author.Tests.{eqb-true}
use lib.ListN.{length, get_or, set, replicate}
use lib.Dec.{eqb, leb}
use Rattle.addresses.specs.Table.{place_from, held_by, OneAddress, Place, held}
use Rattle.address_claims.specs.Claims.{without, withdrawn, moved_to, others_dropped, settled, contested, claimed}
use Rattle.address_claims.proofs.Places.{withdrawn_at, moved_here, moved_other}
use Rattle.address_claims.proofs.Claims.{without_gone, without_cases}

-- after a NAME's claim of an address: the NAME stands there at most, any other NAME only where it stood
pub record Moved (name address : ℕ) (before after : List Place) : Type 0 where
  pub own : (i : ℕ) → held_by name (get_or after i None) ≡ true → i ≡ address
  pub others : (other i : ℕ) → (other ≡ name → ⊥) → held_by other (get_or after i None) ≡ true → held_by other (get_or before i None) ≡ true

pub one_address_lem : {name address : ℕ} {before after : List Place} → Moved name address before after → OneAddress before → OneAddress after
one_address_lem {name} M one other i j hi hj =
    elim (ℕ_discrete other name) [
      | yes e ↦ M.own i (rw e at hi) ∙ sym (M.own j (rw e at hj))
      | no ne ↦ one other i j (M.others other i ne hi) (M.others other j ne hj)
    ]

-- ---- one place: a NAME that stands in it stood there, or is the claimant
abbrev Stood : ℕ → Place → Place → Type 0
Stood name before after = (other : ℕ) → (other ≡ name → ⊥) → held_by other after ≡ true → held_by other before ≡ true

stood_free : (name : ℕ) (before : Place) → Stood name before None
unfolding held_by
stood_free name before other ne h = absurd (true≢false (sym h))

stood_claimant : (free : Bool) (name : ℕ) (before : Place) (port : ℕ) → Stood name before (cond free None (held port name))
unfolding held_by
stood_claimant true name before port = stood_free name before
stood_claimant false name before port = λ other ne h. absurd (ne (sym (eqb-true name other h)))

stood_placed : (name : ℕ) (before : Place) (port : ℕ) → Stood name before (place_from port name)
unfolding place_from
stood_placed name before port = stood_claimant (eqb port 0) name before port

stood_without : (name : ℕ) (place : Place) → Stood name place (without name place)
stood_without name place other ne h =
    ⊎_elim
    (λ same. rw same at h)
    (λ gone. stood_free name place other ne (rw gone.1 at h))
    (without_cases name place)

stood_contested : (port name : ℕ) (place : Place) → Stood name place (contested port name place)
unfolding contested
stood_contested port name None = stood_placed name None port
stood_contested port name (Some holder) = by (leb name holder.name)
  where
    by : (b : Bool) → Stood name (Some holder) (cond b (place_from port name) (Some holder))
    by true = stood_placed name (Some holder) port
    by false = λ other ne h. h

moved : (name address : ℕ) (place : Place) (table : List Place) → address < length table → Stood name (get_or table address None) place → Moved name address table (moved_to name address place table)
moved name address place table in_table stood = record {
  own = λ i h.
      elim (ℕ_discrete i address) [
        | yes e ↦ e
        | no ne ↦ absurd (true≢false (sym (rw (moved_other name address place table i ne) at h) ∙ without_gone name (get_or table i None)))
      ];
  others = λ other i no-claimant h.
      elim (ℕ_discrete i address) [
        | yes e ↦ rw e (stood other no-claimant (rw (e, moved_here name address place table in_table) at h))
        | no ne ↦ stood_without name (get_or table i None) other no-claimant (rw (moved_other name address place table i ne) at h)
      ];
}

-- ---- the calls
module _ (port address name : ℕ) (table : List Place) (in_table : address < length table) where
  pub claim_moved : Moved name address table (claimed port address name table)
  claim_moved = moved name address (contested port name (get_or table address None)) table in_table (stood_contested port name (get_or table address None))

  pub settle_moved : Moved name address table (settled port address name table)
  settle_moved = moved name address (place_from port name) table in_table (stood_placed name (get_or table address None) port)

  pub drop_moved : Moved name address table (others_dropped name address table)
  drop_moved = moved name address (get_or table address None) table in_table (λ other ne h. h)

pub withdraw_moved : (name address : ℕ) (table : List Place) → Moved name address table (withdrawn name table)
withdraw_moved name address table = record {
  own = λ i h. absurd (true≢false (sym (rw (withdrawn_at name table i) at h) ∙ without_gone name (get_or table i None)));
  others = λ other i ne h. stood_without name (get_or table i None) other ne (rw (withdrawn_at name table i) at h);
}

released : (name : ℕ) (table : List Place) (address i : ℕ) → held_by name (get_or (set table address None) i None) ≡ true → held_by name (get_or table i None) ≡ true
unfolding held_by
released name [] address i h = h
released name (p ∷ ps) zero zero h = absurd (true≢false (sym h))
released name (p ∷ ps) zero (suc i) h = h
released name (p ∷ ps) (suc address) zero h = h
released name (p ∷ ps) (suc address) (suc i) h = released name ps address i h

pub release_one : (address : ℕ) (table : List Place) → OneAddress table → OneAddress (set table address None)
release_one address table one name i j hi hj = one name i j (released name table address i hi) (released name table address j hj)

-- a fresh table
nobody : (name n i : ℕ) → held_by name (get_or (replicate n None) i None) ≡ false
unfolding held_by
nobody name zero i = refl
nobody name (suc n) zero = refl
nobody name (suc n) (suc i) = nobody name n i

pub fresh_one : (n : ℕ) → OneAddress (replicate n None)
fresh_one n name i j hi hj = absurd (true≢false (sym hi ∙ nobody name n i))
