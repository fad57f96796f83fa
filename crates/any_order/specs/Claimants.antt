-- Claims without an order: who claims which address, and whom it goes to (docs/RULES.md, "Claims in any order").
-- Assumes nothing.
use Rattle.std.specs.Prelude.{ℕ, ◌≤◌, ◌<◌, Bool, true, false, cond, ◌≡◌, None}
use mathlib.Core.List.{List, ◌∷◌, Memᴰ}
use Rattle.addresses.specs.Table.{place_from, Place}
use Rattle.unit.specs.declared.Claim.{Claim}
use Rattle.unit.specs.declared.Claim.TheVariants.{Unstarted, Lost}
use Rattle.unit.specs.Own.{holds_address}

-- a claim: the port it arrived at, the address, the NAME
pub record Claimant : Type 0 where
  pub port : ℕ
  pub address : ℕ
  pub name : ℕ

-- the unit as a claimant: it comes from no port
abbrev pub the_unit : ℕ → ℕ → Claimant
the_unit name preferred = record { port = 0; address = preferred; name = name }

-- "the unit counted as one where it has started"
abbrev pub with_unit : Bool → ℕ → ℕ → List Claimant → List Claimant
with_unit has_started name preferred cs = cond has_started (the_unit name preferred ∷ cs) cs

-- the same claims, each as often as it likes
pub record Same (cs cs' : List Claimant) : Type 0 where
  pub there : (c : Claimant) → Memᴰ c cs → Memᴰ c cs'
  pub back : (c : Claimant) → Memᴰ c cs' → Memᴰ c cs

-- what the table holds for a claimant: its NAME with its port. Port 0 is a free place: the unit's own address stays out of the table.
abbrev pub recorded : Claimant → Place
recorded c = place_from c.port c.name

-- a claimant of an address than which none is lower
pub record Lowest (cs : List Claimant) (address : ℕ) (c : Claimant) : Type 0 where
  pub among : Memᴰ c cs
  pub here : c.address ≡ address
  pub low : (d : Claimant) → Memᴰ d cs → d.address ≡ address → c.name ≤ d.name

-- "Each address goes to its lowest claimant": what the table holds there
pub data GoesTo (cs : List Claimant) (address : ℕ) : Place → Type 0 where
  nobody : ((c : Claimant) → Memᴰ c cs → c.address ≡ address → ⊥) → GoesTo cs address None
  lowest : (c : Claimant) → Lowest cs address c → GoesTo cs address (recorded c)

-- How the unit stands among the claims cs of others: its claim state and its address. It keeps its preferred address where it is the lowest claimant.
pub data Stands (name preferred : ℕ) (cs : List Claimant) : (has_started : Bool) → Claim → (address : ℕ) → Type 0 where
  unstarted : Stands name preferred cs false Unstarted 254
  keeps : (claim : Claim) → holds_address claim ≡ true → Lowest (with_unit true name preferred cs) preferred (the_unit name preferred)
      → Stands name preferred cs true claim preferred
  loses : (c : Claimant) → Memᴰ c cs → c.address ≡ preferred → c.name < name → Stands name preferred cs true Lost 254
