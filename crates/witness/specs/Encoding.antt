-- Calls and answers as words. A call is five words: its kind, the port, a further argument, and the place of its bytes, from where to where, among the
-- bytes of all calls. An answer is twelve words. Assumes nothing.
use Rattle.std.specs.Prelude.{ℕ, ◌-◌, ◌%◌, ◌^◌, cond, List, [], ◌∷◌, ◌++◌, eqb, length, take, drop, get_or, replicate, Some, None}
use Rattle.address_claims.specs.Events.{event_number, old_name}
use Rattle.bridge.specs.Told.{Refused, Took, UnitTold, Told}
use Rattle.unit.specs.Own.{claim_word}
use Rattle.bridge.specs.Calls.{Call, FrameIn, TakeOut, Message, Start, Quiet, ReadUnit, ReadCounts}
use Rattle.demand_3.specs.Demand3.{Answer, ToFrame, ToTake, ToMessage, ToStart, ToQuiet, ToUnit, ToCounts}

abbrev pub call_words : ℕ
call_words = 5

abbrev pub answer_words : ℕ
answer_words = 12

-- ---- calls
-- 0 a frame with this identifier, 1 a take, 2 a message from this requester, 3 Start, 5 the unit is read, 6 a port's counts are read, any other Quiet
unfoldable pub call_from : ℕ → ℕ → ℕ → List ℕ → ℕ → Call
call_from kind port argument bytes lentReply =
    cond (eqb kind 0)
    (FrameIn port argument bytes)
    (cond (eqb kind 1)
    (TakeOut port)
    (cond (eqb kind 2)
    (Message port argument bytes lentReply)
    (cond (eqb kind 3)
    Start
    (cond (eqb kind 5)
    ReadUnit
    (cond (eqb kind 6) (ReadCounts port) Quiet)))))

-- the bytes from a place up to another, as far as there are any
abbrev pub part_of : List ℕ → ℕ → ℕ → List ℕ
part_of bytes from to = drop from (take to bytes)

unfoldable pub call_of : List ℕ → ℕ → List ℕ → Call
call_of bytes lentReply call =
    call_from (get_or call 0 0) (get_or call 1 0 % 2 ^ 32) (get_or call 2 0 % 2 ^ 32) (part_of bytes (get_or call 3 0) (get_or call 4 0)) lentReply

-- ---- answers
-- 0 behind the words that it has
abbrev pub padded : List ℕ → List ℕ
padded words = words ++ replicate (answer_words - length words) 0

unfoldable pub code : Answer → List ℕ
code (ToFrame r) =
    padded (r.refusal ∷ cond r.consumed 1 0 ∷ r.accepted ∷ r.lost ∷ r.unsent ∷ r.compared ∷ event_number r.event ∷ old_name r.event ∷ r.reasons ∷ [])
code (ToTake (Refused number)) = padded (number ∷ [])
code (ToTake (Took (Some f))) = padded (0 ∷ 1 ∷ f.id ∷ f.len ∷ f.bytes ∷ [])
code (ToTake (Took None)) = padded (0 ∷ [])
code (ToMessage r reply) = padded (r.refusal ∷ r.pgn ∷ r.length ∷ r.told.entry ∷ r.told.to ∷ r.told.pgn ∷ [])
code (ToStart r) = padded (r.refusal ∷ r.unsent ∷ claim_word r.claim ∷ [])
code (ToQuiet number) = padded (number ∷ [])
code (ToUnit (UnitTold.Refused number)) = padded (number ∷ [])
code (ToUnit (Told own)) = padded (0 ∷ claim_word own.claim ∷ own.address ∷ own.preferred ∷ own.name ∷ own.ports ∷ [])
code (ToCounts r) =
    padded
    (r.refusal
    ∷ get_or r.tally.waiting 0 0
    ∷ get_or r.tally.waiting 1 0
    ∷ get_or r.tally.waiting 2 0
    ∷ get_or r.tally.waiting 3 0
    ∷ get_or r.tally.waiting 4 0
    ∷ get_or r.tally.waiting 5 0
    ∷ get_or r.tally.waiting 6 0
    ∷ get_or r.tally.waiting 7 0
    ∷ r.tally.accepted
    ∷ r.tally.taken
    ∷ [])

-- the words of several answers
abbrev pub codes : List Answer → List ℕ
codes [] = []
codes (x ∷ xs) = code x ++ codes xs
