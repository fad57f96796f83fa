-- docs/RULES.md, "Numbers given back": the checks of each call in order, and the number of the first that applies, 0 where none does.
-- Assumes nothing.
use Rattle.std.specs.Prelude.{ℕ, not, ◌&&◌, ◌||◌, List, [], ◌∷◌, ltb, leb}
use Rattle.identifier.specs.Identifier.{too_wide, wrong_source}
use Rattle.checks.specs.Checks.{Check, check, first}
use Rattle.checks.specs.Ports.{no_port}
use Rattle.network_message.specs.Decoding.{longest}
use Rattle.unit.specs.declared.Unit.{Unit}
use Rattle.unit.specs.PowerOn.{not_long}
use Rattle.unit.specs.Own.{is_claiming, start_checks, is_claimed}
use Rattle.unit.specs.Model.{Rest}

-- 1: port not 1 to the number of ports; 3: identifier 2^29 or more; 4: frame length over 8; 5: the source address
unfoldable pub frame_refusal : ℕ → ℕ → ℕ → ℕ → ℕ → ℕ
frame_refusal ports lent port id len =
    first
    (check (no_port ports port) 1
    ∷ check (not_long ports lent) 2
    ∷ check (too_wide id) 3
    ∷ check (ltb 8 len) 4
    ∷ check (wrong_source id) 5
    ∷ [])

-- of a call that has no other number
unfoldable pub length_refusal : ℕ → ℕ → ℕ
length_refusal ports lent = first (check (not_long ports lent) 2 ∷ [])

unfoldable pub take_refusal : ℕ → ℕ → ℕ → ℕ
take_refusal ports lent port = first (check (no_port ports port) 1 ∷ check (not_long ports lent) 2 ∷ [])

unfoldable pub start_refusal : ℕ → ℕ → Unit → ℕ
start_refusal ports lent own = first (check (not_long ports lent) 2 ∷ start_checks own)

-- 18: Quiet not in Claiming
unfoldable pub quiet_refusal : ℕ → ℕ → Unit → ℕ
quiet_refusal ports lent own = first (check (not_long ports lent) 2 ∷ check (not (is_claiming own.claim)) 18 ∷ [])

-- ---- 1, 2, 6, 7, 8 of a message: before the payload is read
-- 7: payload not 8 to 1,785 bytes; 8: requester not 0 to 253
abbrev pub late_checks : ℕ → ℕ → List Check
late_checks requester size = check (not (leb 8 size && leb size longest)) 7 ∷ check (ltb 253 requester) 8 ∷ []

abbrev pub message_checks : ℕ → ℕ → ℕ → Rest → ℕ → ℕ → ℕ → List Check
message_checks ports lent lentReply rest port requester size =
    check (no_port ports port) 1
    ∷ check (not_long ports lent || ltb lentReply longest) 2
    ∷ check (not (is_claimed rest.own.claim)) 6
    ∷ late_checks requester size

unfoldable pub message_refusal : ℕ → ℕ → ℕ → Rest → ℕ → ℕ → ℕ → ℕ
message_refusal ports lent lentReply rest port requester size = first (message_checks ports lent lentReply rest port requester size)
