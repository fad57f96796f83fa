-- What a claim makes of one place of the table, if the place went to its lowest claimant before. Assumes nothing.
use Rattle.std.specs.Prelude.{None}
use mathlib.Core.Path.{◌≡◌, refl, sym}
use mathlib.Core.Bool.{Bool, true, false, cond, true≢false}
use mathlib.Core.List.{List, Memᴰ}
use Prim.Native.Nat.{ℕ, ◌≤◌, ◌<◌}
use native.Mathlib.Omega.{arith}
use borrow.Author.Tests.{ne_eqb, leb-true, leb-false, ltb-true, ltb-false}
use lib.Dec.{eqb, leb}
use Rattle.addresses.specs.Table.{place_from, held_by, Place, held}
use Rattle.address_claims.specs.Claims.{without, contested}
use Rattle.address_claims.proofs.Claims.{placed}
use Rattle.claims.specs.Claims.{held_under}
use Rattle.any_order.specs.Claimants.{Claimant, the_unit, recorded, Lowest, GoesTo, nobody, lowest}
use Rattle.any_order.proofs.Lowest.{Grown, lowest_stays, lower}

-- ---- another address: nobody there has the claimant's NAME, and it is left as it was
not_held : (port holder name : ℕ) → (holder ≡ name → ⊥) → held_by name (place_from port holder) ≡ false
unfolding place_from held_by
not_held port holder name ne = go (eqb port 0)
  where
    go : (b : Bool) → held_by name (cond b None (held port holder)) ≡ false
    go true = refl
    go false = ne_eqb holder name ne

without_none : (name : ℕ) (p : Place) → held_by name p ≡ false → without name p ≡ p
unfolding without
without_none name p h = rw h

pub left_alone : {cs : List Claimant} {a : ℕ} {p : Place} (name : ℕ) → ((d : Claimant) → Memᴰ d cs → d.address ≡ a → d.name ≡ name → ⊥)
    → GoesTo cs a p → without name p ≡ p
unfolding held_by
left_alone name none (nobody n) = without_none name None refl
left_alone name none (lowest d L) = without_none name (recorded d) (not_held d.port d.name name (none d L.among L.here))

-- ---- the address itself
module _ {cs cs' : List Claimant} {c : Claimant} (g : Grown cs c cs') {a : ℕ} (here : c.address ≡ a) where
  -- not the unit's: whoever holds it holds it on a port
  pub contested_goes : {p : Place} → ((d : Claimant) → Lowest cs a d → 0 < d.port) → GoesTo cs a p → GoesTo cs' a (contested c.port c.name p)
  unfolding contested
  contested_goes real (nobody n) = lower g here (λ d m at. absurd (n d m at))
  contested_goes real (lowest d L) = rw (placed d.port d.name (real d L)) (go (leb c.name d.name) refl)
    where
      go : (b : Bool) → leb c.name d.name ≡ b → GoesTo cs' a (cond b (recorded c) (held d.port d.name))
      go true t = lower g here (λ e m at. omega (arith, leb-true c.name d.name t, L.low e m at))
      go false t = rw (← (placed d.port d.name (real d L))) (lowest d (lowest_stays g L (λ e. omega (arith, leb-false c.name d.name t))))

  -- one that is lower than the claimant has it
  pub beaten_goes : {p : Place} (u : Claimant) → Memᴰ u cs → u.address ≡ a → u.name ≤ c.name → GoesTo cs a p → GoesTo cs' a p
  beaten_goes u m at low (nobody n) = absurd (n u m at)
  beaten_goes u m at low (lowest d L) = lowest d (lowest_stays g L (λ e. omega (arith, L.low u m at)))

-- ---- Start
held_lower : (name port holder : ℕ) → held_under name (place_from port holder) ≡ true → holder < name
unfolding place_from
held_lower name port holder = go (eqb port 0)
  where
    go : (b : Bool) → held_under name (cond b None (held port holder)) ≡ true → holder < name
    go true h = absurd (true≢false (sym h))
    go false h = ltb-true holder name h

-- held under a lower NAME: somebody is lower than the unit
pub under_lower : {cs : List Claimant} {a : ℕ} {p : Place} (name : ℕ) → held_under name p ≡ true → GoesTo cs a p
    → (d : Claimant) × Memᴰ d cs × (d.address ≡ a) × (d.name < name)
under_lower name h (nobody n) = absurd (true≢false (sym h))
under_lower name h (lowest d L) = (d, L.among, L.here, held_lower name d.port d.name h)

-- else nobody is
pub not_under : {cs : List Claimant} {a : ℕ} {p : Place} (name : ℕ) → ((d : Claimant) → Memᴰ d cs → 0 < d.port) → held_under name p ≡ false → GoesTo cs a p
    → (d : Claimant) → Memᴰ d cs → d.address ≡ a → name ≤ d.name
not_under name real h (nobody n) d m at = absurd (n d m at)
not_under name real h (lowest e L) d m at =
    let held : held_under name (held e.port e.name) ≡ false = rw (placed e.port e.name (real e L.among)) at h in
    omega (arith, ltb-false e.name name held, L.low d m at)

-- the unit's place is free
pub unit_free : (name preferred : ℕ) → recorded (the_unit name preferred) ≡ None
unfolding place_from
unit_free name preferred = refl
