-- The unit itself, docs/RULES.md, "Addresses" and rule 1 of "Forwarding": its claim state, what is its own, the frames that it sends, when it may start.
-- Assumes nothing.
use Rattle.std.specs.Prelude.{ℕ, ◌+◌, Bool, true, false, not, ◌&&◌, List, [], ◌∷◌, ltb, eqb, None, Option, Some}
use Rattle.identifier.specs.Identifier.{ps_of, has_destination}
use Rattle.queue.specs.declared.Frame.{Frame}
use Rattle.checks.specs.Checks.{Check, check}
use Rattle.unit.specs.declared.Claim.{Claim}
use Rattle.unit.specs.declared.Claim.TheVariants.{Unstarted, Claiming, Claimed, Lost}
use Rattle.unit.specs.declared.Unit.{Unit}

-- ---- the claim state
abbrev pub is_unstarted : Claim → Bool
is_unstarted Unstarted = true
is_unstarted Claiming = false
is_unstarted Claimed = false
is_unstarted Lost = false

abbrev pub is_claiming : Claim → Bool
is_claiming Unstarted = false
is_claiming Claiming = true
is_claiming Claimed = false
is_claiming Lost = false

abbrev pub is_claimed : Claim → Bool
is_claimed Unstarted = false
is_claimed Claiming = false
is_claimed Claimed = true
is_claimed Lost = false

-- the word that stands for a claim state
abbrev pub claim_word : Claim → ℕ
claim_word Unstarted = 0
claim_word Claiming = 1
claim_word Claimed = 2
claim_word Lost = 3

-- ---- rule 1: "PF is below 240 and PS is the unit's address while that is Claiming or Claimed"
abbrev pub holds_address : Claim → Bool
holds_address Unstarted = false
holds_address Claiming = true
holds_address Claimed = true
holds_address Lost = false

-- whether an address is the unit's
unfoldable pub is_own : Unit → ℕ → Bool
is_own own address = holds_address own.claim && eqb address own.address

unfoldable pub consumes : Unit → ℕ → Bool
consumes own id = has_destination id && is_own own (ps_of id)

-- ---- the unit as calls leave it
-- power-on: Unstarted, with its NAME, preferred address and number of ports; 254 is no address
abbrev pub fresh_unit : ℕ → ℕ → ℕ → Unit
fresh_unit name preferred ports = record { claim = Unstarted; address = 254; preferred = preferred; name = name; ports = ports }

-- the unit in another claim state, with another address
abbrev pub moved : Unit → Claim → ℕ → Unit
moved own claim address = record { claim = claim; address = address; preferred = own.preferred; name = own.name; ports = own.ports }

-- ---- its frames
-- "18EEFF00 (hex) plus its address, or 18EEFFFE, length 8, its NAME"
abbrev pub claim_frame : Unit → Frame
claim_frame own = record { id = 0x18EEFF00 + own.address; len = 8; bytes = own.name }

abbrev pub cannot_claim_frame : Unit → Frame
cannot_claim_frame own = record { id = 0x18EEFFFE; len = 8; bytes = own.name }

abbrev pub frames_sent : Option Frame → List Frame
frames_sent None = []
frames_sent (Some f) = f ∷ []

-- a request: "answered with a claim, or cannot-claim if Lost; Unstarted answers none"
abbrev pub request_answer : Unit → Claim → Option Frame
request_answer own Unstarted = None
request_answer own Claiming = Some (claim_frame own)
request_answer own Claimed = Some (claim_frame own)
request_answer own Lost = Some (cannot_claim_frame own)

-- ---- Start
-- 18: Start not in Unstarted, which comes before 8: the preferred address not 0 to 253
abbrev pub start_checks : Unit → List Check
start_checks own = check (not (is_unstarted own.claim)) 18 ∷ check (ltb 253 own.preferred) 8 ∷ []
