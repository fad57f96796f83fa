-- What ticket 12 asks of the claims is needed: for each premise lists of calls that have every other one, and after which the conclusion fails. `needed` of
-- proofs/Needed.antt proves `Needed` by computing. Assumes nothing.
use Rattle.std.specs.Prelude.{ℕ, ◌+◌, ◌≡◌}
use mathlib.Core.List.{List, [], ◌∷◌, Permᴰ}
use Rattle.bridge.specs.Calls.{Call, FrameIn, Start}
use Rattle.any_order.specs.Mornings.{claimants, has_started, Premise, Unrefused, OneAddress, OnePort, NoneWithdraws, NoneIsTheUnit, Holds, Orderly}
use Rattle.any_order.specs.AnyOrder.{Morning, table_in, Outcome}

-- the examples have four ports
abbrev pub ports : ℕ
ports = 4

-- a claim by a NAME below 256, which its identifier may carry at any priority
abbrev pub claim_as : ℕ → ℕ → ℕ → ℕ → Call
claim_as id port address name = FrameIn port (id + address) (name ∷ 0 ∷ 0 ∷ 0 ∷ 0 ∷ 0 ∷ 0 ∷ 0 ∷ [])

abbrev pub claim : ℕ → ℕ → ℕ → Call
claim port address name = claim_as 0x18EEFF00 port address name

-- every premise but p
abbrev pub AllBut : Premise → ℕ → List Call → Type 0
AllBut p name ks = (q : Premise) → (q ≡ p → ⊥) → Holds ports name ks q

-- the same claims in two orders leave two tables
pub record Differ (p : Premise) (name preferred : ℕ) (ks ks' : List Call) : Type 0 where
  pub premises : AllBut p name ks
  pub premises' : AllBut p name ks'
  pub begin : has_started preferred ks ≡ has_started preferred ks'
  pub order : Permᴰ (claimants ks) (claimants ks')
  pub tables : {v v' : List ℕ} → Morning ports name preferred ks v → Morning ports name preferred ks' v' → table_in ports v ≡ table_in ports v' → ⊥

-- an address does not go to its lowest claimant
pub record Misses (p : Premise) (name preferred : ℕ) (ks : List Call) : Type 0 where
  pub premises : AllBut p name ks
  pub outcome : {v : List ℕ} → Morning ports name preferred ks v → Outcome ports name preferred ks v → ⊥

-- ---- the lists: the unit has NAME 8 and prefers address 7
-- an identifier of 29 bits, and one of 30, which is refused (3)
abbrev pub narrow : List Call
narrow = claim 2 5 9 ∷ []

abbrev pub wide : List Call
wide = claim_as 0x38EEFF00 2 5 9 ∷ []

-- a port that there is not (1)
abbrev pub from_port5 : List Call
from_port5 = claim 5 5 9 ∷ []

-- one NAME at two addresses
abbrev pub five_then_six : List Call
five_then_six = claim 2 5 9 ∷ claim 2 6 9 ∷ []

abbrev pub six_then_five : List Call
six_then_five = claim 2 6 9 ∷ claim 2 5 9 ∷ []

-- one NAME on two ports
abbrev pub port2_then3 : List Call
port2_then3 = claim 2 5 9 ∷ claim 3 5 9 ∷ []

abbrev pub port3_then2 : List Call
port3_then2 = claim 3 5 9 ∷ claim 2 5 9 ∷ []

-- a NAME that withdraws, or has nothing to withdraw
abbrev pub claims_then_withdraws : List Call
claims_then_withdraws = claim 2 5 9 ∷ claim 2 254 9 ∷ []

abbrev pub withdraws_then_claims : List Call
withdraws_then_claims = claim 2 254 9 ∷ claim 2 5 9 ∷ []

-- the unit's NAME
abbrev pub units_name : List Call
units_name = claim 2 5 8 ∷ []

-- a claim of the unit's preferred address by a higher NAME
abbrev pub unstarted_unit : List Call
unstarted_unit = claim 2 7 9 ∷ []

abbrev pub started_unit : List Call
started_unit = Start ∷ claim 2 7 9 ∷ []

-- ---- what fails
pub record Needed : Type 0 where
  pub unrefused : Differ Unrefused 8 7 narrow wide
  -- and with the same frames every morning the address goes to nobody
  pub unrefused_misses : Misses Unrefused 8 7 from_port5
  pub one_address : Differ OneAddress 8 7 five_then_six six_then_five
  pub one_port : Differ OnePort 8 7 port2_then3 port3_then2
  pub none_withdraws : Differ NoneWithdraws 8 7 claims_then_withdraws withdraws_then_claims
  -- a claim with the unit's NAME is passed over
  pub none_is_the_unit : Misses NoneIsTheUnit 8 7 units_name
  -- the unit has started the one morning, and not the other: NAME 9 is beaten, or is not
  pub begin : {v v' : List ℕ} → Orderly ports 8 unstarted_unit × Orderly ports 8 started_unit
      × (Morning ports 8 7 unstarted_unit v → Morning ports 8 7 started_unit v' → table_in ports v ≡ table_in ports v' → ⊥)
