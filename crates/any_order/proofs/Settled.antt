-- The table and the unit after some claims: each address has gone to its lowest claimant. And what one more claim makes of them, case by case. Assumes nothing.
use Rattle.std.specs.Prelude.{None}
use mathlib.Core.Path.{◌≡◌, refl, sym, ap, ◌∙◌}
use mathlib.Core.Logic.{⊎_elim}
use mathlib.Core.Bool.{Bool, true, false, true≢false}
use mathlib.Core.List.Memᴰ
use mathlib.Core.List.{List, Memᴰ}
use Prim.Native.Nat.{ℕ, ◌≤◌, ◌<◌}
use native.Mathlib.Decide.{ℕ_discrete}
use native.Mathlib.Omega.{arith}
use lib.ListN.{length, get_or}
use Rattle.addresses.specs.Table.{places, Place}
use Rattle.address_claims.specs.Claims.{moved_to}
use Rattle.address_claims.proofs.Places.{moved_here, moved_other}
use Rattle.unit.specs.declared.Claim.{Claim}
use Rattle.unit.specs.declared.Claim.TheVariants.{Lost}
use Rattle.unit.specs.declared.Unit.{Unit}
use Rattle.unit.specs.Own.{holds_address}
use Rattle.any_order.specs.Claimants.{Claimant, the_unit, with_unit, recorded, Lowest, GoesTo, Stands, unstarted, keeps, loses}
use Rattle.any_order.proofs.Lowest.{Grown, grown_with_unit, lowest_stays, elsewhere, lower}
use Rattle.any_order.proofs.Places.{left_alone, beaten_goes}

pub record Settled (b : Bool) (name preferred : ℕ) (cs : List Claimant) (own : Unit) (table : List Place) : Type 0 where
  pub long : length table ≡ places
  pub goes : (a : ℕ) → a < places → GoesTo (with_unit b name preferred cs) a (get_or table a None)
  pub called : own.name ≡ name
  pub wants : own.preferred ≡ preferred
  pub stands : Stands name preferred cs b own.claim own.address
  pub real : (c : Claimant) → Memᴰ c cs → 0 < c.port
  pub inside : (c : Claimant) → Memᴰ c cs → c.address < places

-- what is known of one more claim
pub record Comes (name : ℕ) (cs : List Claimant) (c : Claimant) : Type 0 where
  pub one : (d : Claimant) → Memᴰ d cs → d.name ≡ c.name → d.address ≡ c.address
  pub other : c.name ≡ name → ⊥
  pub port : 0 < c.port
  pub small : c.address < places

-- ---- the table after a claim, by what becomes of its address
module _ {cs cs' : List Claimant} {c : Claimant} (g : Grown cs c cs') (p : Place) (table : List Place) (long : length table ≡ places) (small : c.address < places) where
  pub table_goes : ((d : Claimant) → Memᴰ d cs → d.name ≡ c.name → d.address ≡ c.address)
      → ((a : ℕ) → a < places → GoesTo cs a (get_or table a None)) → GoesTo cs' c.address p
      → (a : ℕ) → a < places → GoesTo cs' a (get_or (moved_to c.name c.address p table) a None)
  table_goes one goes here a h =
      elim (ℕ_discrete a c.address) [
        | yes e ↦ rw (e, moved_here c.name c.address p table (omega arith)) here
        | no ne ↦
            rw (moved_other c.name c.address p table a ne, left_alone c.name (λ d m at same. ne (sym at ∙ one d m same)) (goes a h))
            (elsewhere g (λ e. ne (sym e)) (goes a h))
      ]

-- the unit is no exception: its NAME is another
pub one_with_unit : (b : Bool) (name preferred : ℕ) {cs : List Claimant} {c : Claimant} → Comes name cs c
    → (d : Claimant) → Memᴰ d (with_unit b name preferred cs) → d.name ≡ c.name → d.address ≡ c.address
one_with_unit false name preferred C d m same = C.one d m same
one_with_unit true name preferred C d m same =
    ⊎_elim (λ u. absurd (C.other (sym same ∙ ap (λ x. x.name) u))) (λ h. C.one d h same) (Memᴰ.cases_cons m)

-- ---- how the unit stands after a claim
-- of another address than its own
pub stands_still : {b : Bool} {name preferred : ℕ} {cs cs' : List Claimant} {c : Claimant} {claim : Claim} {address : ℕ} → Grown cs c cs'
    → (holds_address claim ≡ true → c.address ≡ address → name ≤ c.name)
    → Stands name preferred cs b claim address → Stands name preferred cs' b claim address
stands_still g free unstarted = unstarted
stands_still {name = name} {preferred = preferred} g free (keeps claim h L) = keeps claim h (lowest_stays (grown_with_unit true name preferred g) L (λ e. free h e))
stands_still g free (loses d m at low) = loses d (g.old d m) at low

-- whoever is the lowest claimant of an address that is not the unit's came from a port
pub comes_from_port : {b : Bool} {name preferred : ℕ} {cs : List Claimant} {claim : Claim} {address : ℕ} (a : ℕ)
    → ((d : Claimant) → Memᴰ d cs → 0 < d.port) → (holds_address claim ≡ true → a ≡ address → ⊥)
    → Stands name preferred cs b claim address → (d : Claimant) → Lowest (with_unit b name preferred cs) a d → 0 < d.port
comes_from_port a real free unstarted d L = real d L.among
comes_from_port a real free (keeps claim h U) d L =
    ⊎_elim (λ u. absurd (free h (sym L.here ∙ ap (λ x. x.address) u))) (λ m. real d m) (Memᴰ.cases_cons L.among)
comes_from_port {preferred = preferred} a real free (loses e m at low) d L =
    ⊎_elim
    (λ u.
    let here : preferred ≡ a = sym (ap (λ x. x.address) u) ∙ L.here in
    absurd (omega (arith, ap (λ x. x.name) u, L.low e (Memᴰ.tail m) (at ∙ here))))
    (λ n. real d n)
    (Memᴰ.cases_cons L.among)

-- of its own address
module _ {name preferred : ℕ} {cs cs' : List Claimant} {c : Claimant} (g : Grown cs c cs') where
  -- a lower unit keeps it
  pub defended : {b : Bool} {claim : Claim} {address : ℕ} {p : Place} → Stands name preferred cs b claim address → holds_address claim ≡ true → c.address ≡ address
      → name ≤ c.name → GoesTo (with_unit b name preferred cs) c.address p → GoesTo (with_unit b name preferred cs') c.address p
  defended unstarted h e low G = absurd (true≢false (sym h))
  defended (keeps claim _ L) h e low G =
      beaten_goes (grown_with_unit true name preferred g) refl (the_unit name preferred) (Memᴰ.head refl) (sym e) low G
  defended (loses d m at l) h e low G = absurd (true≢false (sym h))

  -- a higher one loses it
  pub displaced : {b : Bool} {claim : Claim} {address : ℕ} → Stands name preferred cs b claim address → holds_address claim ≡ true → c.address ≡ address
      → c.name < name → GoesTo (with_unit b name preferred cs') c.address (recorded c) × Stands name preferred cs' b Lost 254
  displaced unstarted h e low = absurd (true≢false (sym h))
  displaced (keeps claim _ L) h e low = (
    lower (grown_with_unit true name preferred g) refl (λ d m at. omega (arith, L.low d m (at ∙ e))),
    loses c g.new e low,
  )
  displaced (loses d m at l) h e low = absurd (true≢false (sym h))
