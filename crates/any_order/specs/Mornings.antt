-- The claims in a list of calls, read off the calls' arguments alone, and what "Claims in any order" of docs/RULES.md asks of them.
-- Assumes nothing.
use Rattle.std.specs.Prelude.{ℕ, ◌<◌, Bool, true, false, ◌&&◌, cond, ◌≡◌, eqb, leb, length}
use mathlib.Core.List.{List, [], ◌∷◌, ◌++◌, Memᴰ}
use Rattle.storage.specs.Bytes.{packed}
use Rattle.identifier.specs.Identifier.{pgn_of, ps_of, sa_of}
use Rattle.addresses.specs.Table.{places}
use Rattle.unit.specs.Model.{record_length}
use Rattle.refusals.specs.Refusals.{frame_refusal}
use Rattle.bridge.specs.Calls.{Call, FrameIn, TakeOut, Message, Start, Quiet, ReadUnit, ReadCounts}
use Rattle.any_order.specs.Claimants.{Claimant}

-- docs/RULES.md, "Addresses": a claim is PGN 60928 to 255 with 8 bytes
unfoldable pub is_claim : ℕ → List ℕ → Bool
is_claim id bytes = eqb (pgn_of id) 60928 && (eqb (ps_of id) 255 && eqb (length bytes) 8)

-- the NAME is these bytes, least significant first; the address is the SA
abbrev pub claimant_in : ℕ → ℕ → List ℕ → Claimant
claimant_in port id bytes = record { port = port; address = sa_of id; name = packed bytes }

unfoldable pub claim_of : ℕ → ℕ → List ℕ → List Claimant
claim_of port id bytes = cond (is_claim id bytes) (claimant_in port id bytes ∷ []) []

-- the claims in a list of calls, in their order
abbrev pub claimants : List Call → List Claimant
claimants [] = []
claimants (FrameIn port id bytes ∷ ks) = claim_of port id bytes ++ claimants ks
claimants (TakeOut port ∷ ks) = claimants ks
claimants (Message port requester payload lentReply ∷ ks) = claimants ks
claimants (Start ∷ ks) = claimants ks
claimants (Quiet ∷ ks) = claimants ks
claimants (ReadUnit ∷ ks) = claimants ks
claimants (ReadCounts port ∷ ks) = claimants ks

-- whether Start is called
abbrev pub calls_start : List Call → Bool
calls_start [] = false
calls_start (FrameIn port id bytes ∷ ks) = calls_start ks
calls_start (TakeOut port ∷ ks) = calls_start ks
calls_start (Message port requester payload lentReply ∷ ks) = calls_start ks
calls_start (Start ∷ ks) = true
calls_start (Quiet ∷ ks) = calls_start ks
calls_start (ReadUnit ∷ ks) = calls_start ks
calls_start (ReadCounts port ∷ ks) = calls_start ks

-- whether the unit has started: Start was called, with a good preferred address. Where it stands among the calls does not matter.
abbrev pub has_started : ℕ → List Call → Bool
has_started preferred ks = calls_start ks && leb preferred 253

-- ---- what ticket 12 asks of the claims
pub data Premise : Type 0 where
  Unrefused : Premise
  OneAddress : Premise
  OnePort : Premise
  NoneWithdraws : Premise
  NoneIsTheUnit : Premise

-- on a unit with this NAME, of the calls ks
abbrev pub Holds : ℕ → ℕ → List Call → Premise → Type 0
-- "if no claim is refused"
Holds ports name ks Unrefused =
    (port id : ℕ) (bytes : List ℕ) → Memᴰ (FrameIn port id bytes) ks → is_claim id bytes ≡ true → frame_refusal ports (record_length ports) port id (length bytes) ≡ 0
-- "each NAME claims one address only", of 0 to 253
Holds ports name ks OneAddress =
    (c d : Claimant) → Memᴰ c (claimants ks) → Memᴰ d (claimants ks) → c.name ≡ d.name → c.address < places → d.address < places → c.address ≡ d.address
-- "and on one port only"
Holds ports name ks OnePort = (c d : Claimant) → Memᴰ c (claimants ks) → Memᴰ d (claimants ks) → c.name ≡ d.name → c.port ≡ d.port
-- "none withdraws": by a claim from SA 254
Holds ports name ks NoneWithdraws = (c : Claimant) → Memᴰ c (claimants ks) → c.address ≡ 254 → ⊥
-- "and none is the unit's"
Holds ports name ks NoneIsTheUnit = (c : Claimant) → Memᴰ c (claimants ks) → c.name ≡ name → ⊥

abbrev pub Orderly : ℕ → ℕ → List Call → Type 0
Orderly ports name ks = (p : Premise) → Holds ports name ks p
