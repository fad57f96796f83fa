-- docs/RULES.md, "Claims in any order": "At key-on the claims come in a different order every morning. Prove: .. the final table is the same for every order
-- of the same claims." And what that table holds at each address, said without an order. `any_order` of proofs/AnyOrder.antt proves `AnyOrder`. Words in
-- quotes are ticket 12's. Assumes nothing.
use Rattle.std.specs.Prelude.{ℕ, ◌≤◌, ◌<◌, Bool, true, false, ◌≡◌, get_or, None}
use mathlib.Core.List.{List, [], ◌∷◌, ◌++◌, Memᴰ, Permᴰ}
use Rattle.addresses.specs.Table.{places, Place}
use Rattle.unit.specs.declared.Claim.{Claim}
use Rattle.unit.specs.declared.Claim.TheVariants.{Unstarted, Claiming, Claimed, Lost}
use Rattle.unit.specs.declared.Unit.{Unit}
use Rattle.unit.specs.Model.{model_of}
use Rattle.delivery.specs.Calls.{Run}
use Rattle.bridge.specs.Calls.{Call, Start}
use Rattle.made.specs.Made.{Powered}
use Rattle.demand_3.specs.Demand3.{Answer, Made}
use Rattle.any_order.specs.Claimants.{with_unit, Same, GoesTo, Stands}
use Rattle.any_order.specs.Mornings.{claimants, has_started, Orderly}

-- "From power-on": a power-on that isn't refused, on any words, with any number of ports, and then the calls ks by the real functions, of which the contracts alone are known. Any calls
-- with any arguments may stand between the claims, refused ones too. They left the record v.
pub record Morning (ports name preferred : ℕ) (ks : List Call) (v : List ℕ) : Type 0 where
  pub lent : List ℕ
  pub begin : List ℕ
  pub number : ℕ
  pub answers : List Answer
  pub powers_on : Powered lent name preferred ports number begin
  pub goes_on : number ≡ 0
  pub run : Run Made begin ks answers v

-- the address table in a record, and the unit
abbrev pub table_in : ℕ → List ℕ → List Place
table_in ports v = (model_of ports v).rest.table

abbrev pub unit_in : ℕ → List ℕ → Unit
unit_in ports v = (model_of ports v).rest.own

-- ---- "Each address goes to its lowest claimant, the unit counted as one where it has started."
pub record Outcome (ports name preferred : ℕ) (ks : List Call) (v : List ℕ) : Type 0 where
  pub table : (address : ℕ) → address < places
      → GoesTo (with_unit (has_started preferred ks) name preferred (claimants ks)) address (get_or (table_in ports v) address None)
  pub unit : Stands name preferred (claimants ks) (has_started preferred ks) (unit_in ports v).claim (unit_in ports v).address

-- ---- "the final table is the same for every order of the same claims"
-- a claim state as it would be had Quiet not been called: Quiet is no claim, and may stand in one list alone
abbrev pub before_quiet : Claim → Claim
before_quiet Unstarted = Unstarted
before_quiet Claiming = Claiming
before_quiet Claimed = Claiming
before_quiet Lost = Lost

pub record Alike (ports : ℕ) (v v' : List ℕ) : Type 0 where
  pub table : table_in ports v ≡ table_in ports v'
  -- and the unit keeps its address in both or in neither
  pub claim : before_quiet (unit_in ports v).claim ≡ before_quiet (unit_in ports v').claim
  pub address : (unit_in ports v).address ≡ (unit_in ports v').address

-- "The unit is Unstarted, or was started before the first claim with a good preferred address."
pub data Begins (preferred : ℕ) (ks : List Call) : (has_started : Bool) → Type 0 where
  -- no Start, or none that is not refused (8)
  unstarted : (Memᴰ Start ks → 253 < preferred) → Begins preferred ks false
  started : (js later : List Call) → ks ≡ js ++ Start ∷ later → claimants js ≡ [] → preferred ≤ 253 → Begins preferred ks true

pub record AnyOrder : Type 0 where
  pub lowest : {ports name preferred : ℕ} {ks : List Call} {v : List ℕ} → Morning ports name preferred ks v → Orderly ports name ks → Outcome ports name preferred ks v
  -- the ticket's sentence
  pub order : {ports name preferred : ℕ} {ks ks' : List Call} {v v' : List ℕ} {b : Bool} → Morning ports name preferred ks v → Morning ports name preferred ks' v'
      → Orderly ports name ks → Orderly ports name ks' → Begins preferred ks b → Begins preferred ks' b
      → Permᴰ (claimants ks) (claimants ks') → Alike ports v v'
  -- and more: claims may come again, and Start anywhere, so it be in both lists or in neither
  pub same : {ports name preferred : ℕ} {ks ks' : List Call} {v v' : List ℕ} → Morning ports name preferred ks v → Morning ports name preferred ks' v'
      → Orderly ports name ks → Orderly ports name ks' → has_started preferred ks ≡ has_started preferred ks'
      → Same (claimants ks) (claimants ks') → Alike ports v v'
