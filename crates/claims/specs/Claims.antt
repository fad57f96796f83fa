-- docs/RULES.md, "Addresses": claims, requests and Start. The frames that the unit sends are the crate `unit`'s.
-- Assumes nothing.
use Rattle.std.specs.Prelude.{ℕ, Bool, false, ◌&&◌, ◌||◌, cond, List, [], ◌∷◌, length, get_or, set, eqb, ltb, None, Option, Some}
use Rattle.addresses.specs.Table.{Place}
use Rattle.storage.specs.Bytes.{packed}
use Rattle.identifier.specs.Identifier.{pgn_of, ps_of, sa_of, request, address_claimed}
use Rattle.queue.specs.declared.Frame.{Frame}
use Rattle.address_claims.specs.declared.Event.{Event}
use Rattle.address_claims.specs.declared.Event.TheVariants.{Nothing, Defended, Displaced}
use Rattle.address_claims.specs.Claims.{others_dropped, claimed, claim_event, withdrawn, withdraw_event, settled}
use Rattle.unit.specs.declared.Claim.TheVariants.{Claiming, Lost}
use Rattle.unit.specs.Model.{Rest, with_own, with_table}
use Rattle.unit.specs.Own.{is_own, moved, claim_frame, cannot_claim_frame, request_answer}

-- ---- what a frame is
-- as it is handed in
abbrev pub frame_of : ℕ → List ℕ → Frame
frame_of id bytes = record { id = id; len = length bytes; bytes = packed bytes }

-- "a claim is PGN 60928, PS 255, length 8; the NAME is its bytes"
unfoldable pub is_claim : Frame → Bool
is_claim f = eqb (pgn_of f.id) address_claimed && (eqb (ps_of f.id) 255 && eqb f.len 8)

-- "a request for address claimed (PGN 59904, length 3, bytes 00 EE 00)"
unfoldable pub is_request : Frame → Bool
is_request f = eqb (pgn_of f.id) request && (eqb f.len 3 && eqb f.bytes (packed (0x00 ∷ 0xEE ∷ 0x00 ∷ [])))

-- "to 255", or "one consumed under rule 1"
unfoldable pub is_request_to_unit : Frame → Bool → Bool
is_request_to_unit f consumed = is_request f && (consumed || eqb (ps_of f.id) 255)

-- ---- what is done about it: the rest of the model then, the event, and what the unit sends
pub record Acted : Type 0 where
  pub rest : Rest
  pub event : Event
  pub sent : Option Frame

abbrev pub acted : Rest → Event → Option Frame → Acted
acted rest event sent = record { rest = rest; event = event; sent = sent }

-- a claim of the unit's address, by another NAME
unfoldable pub contested : Rest → ℕ → ℕ → ℕ → Acted
contested rest port address name =
    cond (ltb rest.own.name name)
    (acted (with_table rest (others_dropped name address rest.table)) Defended (Some (claim_frame rest.own)))
    (acted (with_own (with_table rest (settled port address name rest.table)) (moved rest.own Lost 254)) Displaced (Some (cannot_claim_frame rest.own)))

-- a claim
unfoldable pub claim_acted : Rest → ℕ → Frame → Acted
claim_acted rest port f =
    cond (eqb f.bytes rest.own.name)
    (acted rest Nothing None)
    (cond (eqb (sa_of f.id) 254)
    (acted (with_table rest (withdrawn f.bytes rest.table)) (withdraw_event f.bytes rest.table) None)
    (cond (is_own rest.own (sa_of f.id))
    (contested rest port (sa_of f.id) f.bytes)
    (acted (with_table rest (claimed port (sa_of f.id) f.bytes rest.table)) (claim_event (sa_of f.id) f.bytes rest.table) None)))

unfoldable pub frame_acted : Rest → ℕ → Bool → Frame → Acted
frame_acted rest port consumed f =
    cond (is_claim f)
    (claim_acted rest port f)
    (cond (is_request_to_unit f consumed)
    (acted rest Nothing (request_answer rest.own rest.own.claim))
    (acted rest Nothing None))

-- ---- Start
-- whether an address is held under a lower NAME
abbrev pub held_under : ℕ → Place → Bool
held_under name None = false
held_under name (Some holder) = ltb holder.name name

unfoldable pub started : Rest → Acted
started rest =
    cond (held_under rest.own.name (get_or rest.table rest.own.preferred None))
    (acted (with_own rest (moved rest.own Lost 254)) Nothing (Some (cannot_claim_frame rest.own)))
    (acted
    (with_own (with_table rest (set rest.table rest.own.preferred None)) (moved rest.own Claiming rest.own.preferred))
    Nothing
    (Some (claim_frame (moved rest.own Claiming rest.own.preferred))))
