-- The calls: what each does to the model, what it answers, and the contracts of the functions.
-- `next` is fed the calls' arguments alone. `lent` is the length of the record that was lent.
-- Assumes nothing.
use Rattle.std.specs.Prelude.{ℕ, ◌+◌, ◌-◌, ◌*◌, Bool, false, cond, ◌≡◌, List, [], ◌++◌, length, get_or, take, drop, eqb, Option, None, Some}
use Rattle.identifier.specs.Identifier.{pgn_of, sa_of}
use Rattle.delivery.specs.Row.{pull, given}
use Rattle.delivery.specs.Unit.{join_all}
use Rattle.filter.specs.declared.Asked.{Asked}
use Rattle.filter.specs.Filter.{Filter, reason_number}
use Rattle.queue.specs.declared.Frame.{Frame}
use Rattle.queue.specs.Queue.{size, priority, queue_next, idle, block_length as queue_length}
use Rattle.address_claims.specs.declared.Event.{Event}
use Rattle.network_message.specs.Decoding.{decoded}
use Rattle.unit.specs.declared.Claim.TheVariants.{Unstarted, Claimed}
use Rattle.unit.specs.Ports.{each, in_turn, mask, total, digits}
use Rattle.unit.specs.Count.{ports_of}
use Rattle.unit.specs.Model.{Rest, Model, queue_on, row_at, with_own, with_pairs, rows_from, model_of}
use Rattle.unit.specs.Own.{consumes, moved, frames_sent}
use Rattle.forwarding.specs.Forwarding.{sent_if, accepts, loses, loses_own, lost_from, lost_own, silent, verdict}
use Rattle.claims.specs.Claims.{Acted, frame_acted, started}
pub use Rattle.claims.specs.Claims.{frame_of}
use Rattle.message_answers.specs.Messages.{Replied, MessageTold, nothing_told, message_answer, performed_by, Untouched}
pub use Rattle.bridge.specs.Told.{FrameTold, frame_refused, TakeTold, take_number, gave, StartTold, start_refused, UnitTold, read_number, CountsTold, counts_refused}
use Rattle.refusals.specs.Refusals.{frame_refusal, take_refusal, start_refusal, quiet_refusal, length_refusal, message_refusal}

-- a call, by its arguments
pub data Call : Type 0 where
  FrameIn : (port id : ℕ) (bytes : List ℕ) → Call
  TakeOut : (port : ℕ) → Call
  Message : (port requester : ℕ) (payload : List ℕ) (lentReply : ℕ) → Call
  Start : Call
  Quiet : Call
  ReadUnit : Call
  ReadCounts : (port : ℕ) → Call

-- ---- a frame
-- what is answered for port q: the pair is asked (rule 2), but a consumed frame is not forwarded (rule 1)
unfoldable pub offered : ℕ → Rest → ℕ → ℕ → ℕ → Asked
offered ports rest p id q = cond (consumes rest.own id) silent (verdict ports rest p (pgn_of id) (sa_of id) q)

-- ---- a message
-- nothing is written for 1 to 8
abbrev pub silent_reply : ℕ → List Filter → Replied
silent_reply number pairs = record { number = number; pairs = pairs; losses = λ losses. losses; pgn = 0; written = λ seen. []; told = nothing_told }

unfoldable pub messaged : ℕ → ℕ → ℕ → Rest → ℕ → ℕ → List ℕ → Replied
messaged ports lent lentReply rest port requester payload =
    cond (eqb (message_refusal ports lent lentReply rest port requester (length payload)) 0)
    (performed_by ports rest requester payload (decoded ports port payload))
    (silent_reply (message_refusal ports lent lentReply rest port requester (length payload)) rest.pairs)

-- ---- what a call does
-- the number that it is refused with, 0 where it is not
unfoldable pub refusal : ℕ → ℕ → Rest → Call → ℕ
refusal ports lent rest (FrameIn port id bytes) = frame_refusal ports lent port id (length bytes)
refusal ports lent rest (TakeOut port) = take_refusal ports lent port
refusal ports lent rest (Message port requester payload lentReply) = (messaged ports lent lentReply rest port requester payload).number
refusal ports lent rest Start = start_refusal ports lent rest.own
refusal ports lent rest Quiet = quiet_refusal ports lent rest.own
refusal ports lent rest ReadUnit = length_refusal ports lent
refusal ports lent rest (ReadCounts port) = take_refusal ports lent port

-- a frame that came in is acted on where it is a claim or a request
abbrev pub frame_done : Rest → ℕ → Frame → Acted
frame_done rest port f = frame_acted rest port (consumes rest.own f.id) f

-- the rest of the model
unfoldable pub rest_after : ℕ → ℕ → Rest → Call → Rest
rest_after ports lent rest (FrameIn port id bytes) = (frame_done rest port (frame_of id bytes)).rest
rest_after ports lent rest (TakeOut port) = rest
rest_after ports lent rest (Message port requester payload lentReply) = with_pairs rest (messaged ports lent lentReply rest port requester payload).pairs
rest_after ports lent rest Start = (started rest).rest
rest_after ports lent rest Quiet = with_own rest (moved rest.own Claimed rest.own.address)
rest_after ports lent rest ReadUnit = rest
rest_after ports lent rest (ReadCounts port) = rest

-- the port that a take is made on
unfoldable pub asks : Call → Option ℕ
asks (FrameIn port id bytes) = None
asks (TakeOut port) = Some (port - 1)
asks (Message port requester payload lentReply) = None
asks Start = None
asks Quiet = None
asks ReadUnit = None
asks (ReadCounts port) = None

-- the frames sent to port q, in order: the forwarded, then the unit's own
abbrev pub frame_sends : ℕ → Rest → ℕ → Frame → ℕ → List Frame
frame_sends ports rest port f q = sent_if (offered ports rest (port - 1) f.id q) f ++ frames_sent (frame_done rest port f).sent

unfoldable pub sends : ℕ → Rest → Call → ℕ → List Frame
sends ports rest (FrameIn port id bytes) q = frame_sends ports rest port (frame_of id bytes) q
sends ports rest (TakeOut port) q = []
sends ports rest (Message port requester payload lentReply) q = []
sends ports rest Start q = frames_sent (started rest).sent
sends ports rest Quiet q = []
sends ports rest ReadUnit q = []
sends ports rest (ReadCounts port) q = []

-- ---- docs/RULES.md, "Parameters": what is lost, and counted
-- whether a frame is lost at port q, and whether the unit's own frame is lost there after it
abbrev pub lost_at : ℕ → Model → ℕ → Frame → ℕ → Bool
lost_at ports m port f q = loses (offered ports m.rest (port - 1) f.id q) (row_at m q)

abbrev pub unsent_at : ℕ → Model → ℕ → Frame → ℕ → Bool
unsent_at ports m port f q =
    loses_own (frame_done m.rest port f).sent (join_all size (row_at m q) (sent_if (offered ports m.rest (port - 1) f.id q) f))

abbrev pub start_unsent_at : Model → ℕ → Bool
start_unsent_at m q = loses_own (started m.rest).sent (row_at m q)

-- the counters: a frame's losses, then the unit's own
abbrev pub frame_losses : ℕ → Model → ℕ → Frame → List ℕ
frame_losses ports m port f =
    in_turn (λ q. unsent_at ports m port f q) (λ q. lost_own ports) ports (in_turn (λ q. lost_at ports m port f q) (lost_from ports (port - 1)) ports m.seen.losses)

unfoldable pub losses_after : ℕ → ℕ → Model → Call → List ℕ
losses_after ports lent m (FrameIn port id bytes) = frame_losses ports m port (frame_of id bytes)
losses_after ports lent m (TakeOut port) = m.seen.losses
losses_after ports lent m (Message port requester payload lentReply) = (messaged ports lent lentReply m.rest port requester payload).losses m.seen.losses
losses_after ports lent m Start = in_turn (λ q. start_unsent_at m q) (λ q. lost_own ports) ports m.seen.losses
losses_after ports lent m Quiet = m.seen.losses
losses_after ports lent m ReadUnit = m.seen.losses
losses_after ports lent m (ReadCounts port) = m.seen.losses

-- ---- each queue by itself: frames join under rule 3, or a take is made under rule 4, and what is accepted and taken is counted
unfoldable pub performed : ℕ → ℕ → Model → Call → Model
performed ports lent m k = record {
  rest = rest_after ports lent m.rest k;
  queues = each (λ q x. queue_next (asks k) q x (sends ports m.rest k q)) ports m.queues;
  seen = record { losses = losses_after ports lent m k };
}

-- a refused call changes nothing
unfoldable pub next : ℕ → ℕ → Model → Call → Model
next ports lent m k = cond (eqb (refusal ports lent m.rest k) 0) (performed ports lent m k) m

-- ---- what a call answers
-- "Accepted ports, lost ports and the ports where the unit's own frame was lost are those rule 3 names."
unfoldable pub frame_passed : ℕ → Model → ℕ → Frame → FrameTold
frame_passed ports m port f = record {
  refusal = 0;
  consumed = consumes m.rest.own f.id;
  accepted = mask (λ q. accepts (offered ports m.rest (port - 1) f.id q) (row_at m q)) ports;
  lost = mask (λ q. lost_at ports m port f q) ports;
  event = (frame_done m.rest port f).event;
  unsent = mask (λ q. unsent_at ports m port f q) ports;
  compared = total (λ q. (offered ports m.rest (port - 1) f.id q).compared) ports;
  reasons = digits (λ q. reason_number (offered ports m.rest (port - 1) f.id q).reason) ports;
}

unfoldable pub frame_answer : ℕ → ℕ → Model → ℕ → ℕ → List ℕ → FrameTold
frame_answer ports lent m port id bytes =
    cond (eqb (frame_refusal ports lent port id (length bytes)) 0)
    (frame_passed ports m port (frame_of id bytes))
    (frame_refused (frame_refusal ports lent port id (length bytes)))

unfoldable pub take_answer : ℕ → ℕ → Model → ℕ → TakeTold
take_answer ports lent m port =
    cond (eqb (take_refusal ports lent port) 0)
    (TakeTold.Took (given (pull priority (row_at m (port - 1)))))
    (TakeTold.Refused (take_refusal ports lent port))

-- what became of the unit, and the ports where its own frame was lost
unfoldable pub start_answer : ℕ → ℕ → Model → StartTold
start_answer ports lent m =
    cond (eqb (start_refusal ports lent m.rest.own) 0)
    (record { refusal = 0; unsent = mask (λ q. start_unsent_at m q) ports; claim = (started m.rest).rest.own.claim })
    (start_refused (start_refusal ports lent m.rest.own))

-- the unit, its number of ports among the rest
unfoldable pub unit_answer : ℕ → ℕ → Model → UnitTold
unit_answer ports lent m =
    cond (eqb (length_refusal ports lent) 0) (UnitTold.Told m.rest.own) (UnitTold.Refused (length_refusal ports lent))

unfoldable pub counts_answer : ℕ → ℕ → Model → ℕ → CountsTold
counts_answer ports lent m port =
    cond (eqb (take_refusal ports lent port) 0) (record { refusal = 0; tally = (queue_on m (port - 1)).tally }) (counts_refused (take_refusal ports lent port))

-- ---- the contracts
-- a call k on the record
pub record Calling (ports : ℕ) (before after : List ℕ) (k : Call) : Type 0 where
  pub long : length after ≡ length before
  pub state : model_of ports after ≡ next ports (length before) (model_of ports before) k
  pub count : ports_of after ≡ ports_of before
  -- every word, those too that no rule reads
  pub refused : (refusal ports (length before) (model_of ports before).rest k ≡ 0 → ⊥) → after ≡ before

pub record Framing (ports : ℕ) (before after : List ℕ) (port id : ℕ) (bytes : List ℕ) (r : FrameTold) : Type 0 where
  pub call : Calling ports before after (FrameIn port id bytes)
  pub answer : r ≡ frame_answer ports (length before) (model_of ports before) port id bytes

-- where the queue of a port begins in the record
abbrev pub queue_at : ℕ → ℕ
queue_at port = rows_from + queue_length * (port - 1)

-- "A take changes that port's queue only": every word before it and behind it is as it was
pub record TakingOut (ports : ℕ) (before after : List ℕ) (port : ℕ) (r : TakeTold) : Type 0 where
  pub call : Calling ports before after (TakeOut port)
  pub answer : r ≡ take_answer ports (length before) (model_of ports before) port
  pub ahead : take (queue_at port) after ≡ take (queue_at port) before
  pub behind : drop (queue_at port + queue_length) after ≡ drop (queue_at port + queue_length) before

pub record Messaging (ports : ℕ) (before after : List ℕ) (port requester : ℕ) (payload lent back : List ℕ) (r : MessageTold) : Type 0 where
  pub call : Calling ports before after (Message port requester payload (length lent))
  pub answer : r ≡ message_answer (messaged ports (length before) (length lent) (model_of ports before).rest port requester payload) (model_of ports before).seen
  pub written : back
      ≡ (messaged ports (length before) (length lent) (model_of ports before).rest port requester payload).written (model_of ports before).seen
      ++ drop (length ((messaged ports (length before) (length lent) (model_of ports before).rest port requester payload).written (model_of ports before).seen)) lent
  -- every word outside the blocks of the pairs that a command changes is as it was
  pub others : (n : ℕ) → Untouched ports (decoded ports port payload) n → get_or after n 0 ≡ get_or before n 0

pub record Starting (ports : ℕ) (before after : List ℕ) (r : StartTold) : Type 0 where
  pub call : Calling ports before after Start
  pub answer : r ≡ start_answer ports (length before) (model_of ports before)

pub record Quieting (ports : ℕ) (before after : List ℕ) (r : ℕ) : Type 0 where
  pub call : Calling ports before after Quiet
  pub answer : r ≡ quiet_refusal ports (length before) (model_of ports before).rest.own

-- the unit is read: no word changes
pub record Reading (ports : ℕ) (words : List ℕ) (r : UnitTold) : Type 0 where
  pub call : Calling ports words words ReadUnit
  pub answer : r ≡ unit_answer ports (length words) (model_of ports words)

-- so are the counts of a port
pub record Counting (ports : ℕ) (words : List ℕ) (port : ℕ) (r : CountsTold) : Type 0 where
  pub call : Calling ports words words (ReadCounts port)
  pub answer : r ≡ counts_answer ports (length words) (model_of ports words) port
