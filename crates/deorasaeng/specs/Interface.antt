-- The C interface, in the order of include/deorasaeng.h: for each function the number that it gives, what it does to the record, the words of its answer
-- and the bytes that it writes. `before` and `after` are the record's words; `answer` and `told` the answer's words before and after; `lent..` is the
-- length of storage that was lent. `deorasaeng_power_on` and `deorasaeng_quiet` have no answer: their contracts are the bridge's, `PoweringOn` and `Quieting`.
-- Assumes nothing.
use Rattle.std.specs.Prelude.{ℕ, ◌+◌, Bool, true, not, ◌||◌, cond, ◌≡◌, List, [], ◌∷◌, ◌++◌, length, take, drop, ltb, eqb, Option}
use Rattle.identifier.specs.Identifier.{too_wide, wrong_source}
use Rattle.delivery.specs.Row.{pull, given}
use Rattle.queue.specs.declared.Frame.{Frame}
use Rattle.queue.specs.Queue.{block_length, row_of, priority, Taking}
use Rattle.checks.specs.Checks.{check, first}
use Rattle.network_message.specs.Decoding.{decoded, longest}
use Rattle.bridge.specs.Told.{StartTold}
use Rattle.unit.specs.declared.Unit.{Unit}
use Rattle.unit.specs.Count.{ports_of}
use Rattle.unit.specs.Model.{Rest, Seen, model_of}
use Rattle.checks.specs.Ports.{no_port}
use Rattle.flat_answers.specs.Answers.{frame_length, take_length, bytes_length, unit_length, counts_length, frame_words, take_words, bytes_of_taken, unit_words, counts_words}
use Rattle.unit.specs.PowerOn.{not_long}
use Rattle.unit.specs.Own.{start_checks, claim_word}
use Rattle.unit.specs.Own.{is_claimed}
use Rattle.refusals.specs.Refusals.{late_checks}
use Rattle.message_answers.specs.Messages.{performed_by, Replied, message_answer}
use Rattle.bridge.specs.Calls.{silent_reply, messaged, Messaging}
use Rattle.bridge.specs.Calls.{Call, FrameIn, TakeOut, Message, Start, ReadUnit, ReadCounts, next, queue_at, frame_answer, take_answer, gave, start_answer, counts_answer}

-- ---- what the functions share
-- 2: lent storage not of its published length
abbrev pub not_of : ℕ → ℕ → Bool
not_of published lent = not (eqb lent published)

-- "number 1 stands before 2": the number where lent storage is wrong
unfoldable pub lent_refusal : ℕ → ℕ → ℕ
lent_refusal ports port = first (check (no_port ports port) 1 ∷ check true 2 ∷ [])

-- the call k on the record gave the number r: done where r is 0; else every word is as it was
pub record Served (ports : ℕ) (before after : List ℕ) (k : Call) (r : ℕ) : Type 0 where
  pub long : length after ≡ length before
  pub state : model_of ports after ≡ cond (eqb r 0) (next ports (length before) (model_of ports before) k) (model_of ports before)
  pub count : ports_of after ≡ ports_of before
  pub refused : (r ≡ 0 → ⊥) → after ≡ before

-- "On a refusal it is left as it was."
abbrev pub filled : ℕ → List ℕ → List ℕ → List ℕ
filled r words answer = cond (eqb r 0) words answer

-- ---- deorasaeng_frame
unfoldable pub frame_number : ℕ → ℕ → ℕ → ℕ → ℕ → ℕ → ℕ
frame_number ports lent lentAnswer port id len =
    first
    (check (no_port ports port) 1
    ∷ check (not_long ports lent || not_of frame_length lentAnswer) 2
    ∷ check (too_wide id) 3
    ∷ check (ltb 8 len) 4
    ∷ check (wrong_source id) 5
    ∷ [])

pub record FrameCall (ports : ℕ) (before after : List ℕ) (port id : ℕ) (bytes answer told : List ℕ) (r : ℕ) : Type 0 where
  pub number : r ≡ frame_number ports (length before) (length answer) port id (length bytes)
  pub served : Served ports before after (FrameIn port id bytes) r
  pub tells : told ≡ filled r (frame_words (frame_answer ports (length before) (model_of ports before) port id bytes)) answer

-- ---- deorasaeng_take
unfoldable pub take_number : ℕ → ℕ → ℕ → ℕ → ℕ → ℕ
take_number ports lent lentAnswer lentBytes port =
    first (check (no_port ports port) 1 ∷ check (not_long ports lent || not_of take_length lentAnswer || not_of bytes_length lentBytes) 2 ∷ [])

pub record TakeCall (ports : ℕ) (before after : List ℕ) (port : ℕ) (answer told bytes written : List ℕ) (r : ℕ) : Type 0 where
  pub number : r ≡ take_number ports (length before) (length answer) (length bytes) port
  pub served : Served ports before after (TakeOut port) r
  -- "A take changes that port's queue only": every word before it and behind it is as it was
  pub ahead : take (queue_at port) after ≡ take (queue_at port) before
  pub behind : drop (queue_at port + block_length) after ≡ drop (queue_at port + block_length) before
  pub tells : told ≡ filled r (take_words (gave (take_answer ports (length before) (model_of ports before) port))) answer
  pub writes : written ≡ filled r (bytes_of_taken (gave (take_answer ports (length before) (model_of ports before) port)) bytes) bytes

-- ---- deorasaeng_message
abbrev pub message_length : ℕ
message_length = 5

-- 1, 2, 6, 7, 8: before the payload is read
unfoldable pub message_number : ℕ → ℕ → ℕ → ℕ → Rest → ℕ → ℕ → ℕ → ℕ
message_number ports lent lentReply lentAnswer rest port requester size =
    first
    (check (no_port ports port) 1
    ∷ check (not_long ports lent || ltb lentReply longest || not_of message_length lentAnswer) 2
    ∷ check (not (is_claimed rest.own.claim)) 6
    ∷ late_checks requester size)

-- what the message does and is answered with: 9 to 17 and 22 are acknowledged, and nothing is written for the others
unfoldable pub replied_to : ℕ → ℕ → ℕ → ℕ → Rest → ℕ → ℕ → List ℕ → Replied
replied_to ports lent lentReply lentAnswer rest port requester payload =
    cond (eqb (message_number ports lent lentReply lentAnswer rest port requester (length payload)) 0)
    (performed_by ports rest requester payload (decoded ports port payload))
    (silent_reply (message_number ports lent lentReply lentAnswer rest port requester (length payload)) rest.pairs)

-- PGN and length of what was written, and which entry was wrong: its number, the To port, the PGN. A refusal fills them too, unless the answer itself is not of its
-- length
abbrev pub message_words : Replied → Seen → List ℕ → List ℕ
message_words a seen answer =
    cond (not_of message_length (length answer)) answer (a.pgn ∷ length (a.written seen) ∷ a.told.entry ∷ a.told.to ∷ a.told.pgn ∷ [])

-- the bytes that are written, and the others as they were
abbrev pub over : List ℕ → List ℕ → List ℕ
over written bytes = written ++ drop (length written) bytes

pub record MessageCall (ports : ℕ) (before after : List ℕ) (port requester : ℕ) (payload reply back answer told : List ℕ) (r : ℕ) : Type 0 where
  pub number : r ≡ (replied_to ports (length before) (length reply) (length answer) (model_of ports before).rest port requester payload).number
  pub served : Served ports before after (Message port requester payload (length reply)) r
  pub writes : back ≡ over ((replied_to ports (length before) (length reply) (length answer) (model_of ports before).rest port requester payload).written (model_of ports before).seen) reply
  pub tells : told ≡ message_words (replied_to ports (length before) (length reply) (length answer) (model_of ports before).rest port requester payload) (model_of ports before).seen answer
  -- where the answer is of its length, all that the bridge's own contract says
  pub called : length answer ≡ message_length
      → Messaging ports before after port requester payload reply back
      (message_answer (messaged ports (length before) (length reply) (model_of ports before).rest port requester payload) (model_of ports before).seen)

-- ---- deorasaeng_start
abbrev pub start_length : ℕ
start_length = 2

unfoldable pub start_number : ℕ → ℕ → ℕ → Unit → ℕ
start_number ports lent lentAnswer own = first (check (not_long ports lent || not_of start_length lentAnswer) 2 ∷ start_checks own)

-- ports where the unit's own frame was lost, and what became of the unit: 1 Claiming, 3 Lost
abbrev pub start_words : StartTold → List ℕ
start_words a = a.unsent ∷ claim_word a.claim ∷ []

pub record StartCall (ports : ℕ) (before after answer told : List ℕ) (r : ℕ) : Type 0 where
  pub number : r ≡ start_number ports (length before) (length answer) (model_of ports before).rest.own
  pub served : Served ports before after Start r
  pub tells : told ≡ filled r (start_words (start_answer ports (length before) (model_of ports before))) answer

-- ---- deorasaeng_unit: the record is lent to be read alone
unfoldable pub unit_number : ℕ → ℕ → ℕ → ℕ
unit_number ports lent lentAnswer = first (check (not_long ports lent || not_of unit_length lentAnswer) 2 ∷ [])

pub record UnitCall (ports : ℕ) (words answer told : List ℕ) (r : ℕ) : Type 0 where
  pub number : r ≡ unit_number ports (length words) (length answer)
  pub served : Served ports words words ReadUnit r
  pub tells : told ≡ filled r (unit_words (model_of ports words).rest.own) answer

-- ---- deorasaeng_counts: so it is here
unfoldable pub counts_number : ℕ → ℕ → ℕ → ℕ → ℕ
counts_number ports lent lentAnswer port = first (check (no_port ports port) 1 ∷ check (not_long ports lent || not_of counts_length lentAnswer) 2 ∷ [])

pub record CountsCall (ports : ℕ) (words : List ℕ) (port : ℕ) (answer told : List ℕ) (r : ℕ) : Type 0 where
  pub number : r ≡ counts_number ports (length words) (length answer) port
  pub served : Served ports words words (ReadCounts port) r
  pub tells : told ≡ filled r (counts_words (counts_answer ports (length words) (model_of ports words) port).tally) answer

-- ---- deorasaeng_take_queue: `before` and `after` are the words of one port's queue
unfoldable pub queue_number : ℕ → ℕ → ℕ
queue_number lentAnswer lentBytes = first (check (not_of take_length lentAnswer || not_of bytes_length lentBytes) 2 ∷ [])

-- what the take gives
abbrev pub taken_from : List ℕ → Option Frame
taken_from block = given (pull priority (row_of block))

pub record QueueCall (before after answer told bytes written : List ℕ) (r : ℕ) : Type 0 where
  pub number : r ≡ queue_number (length answer) (length bytes)
  pub done : r ≡ 0 → Taking before after (taken_from before)
  pub refused : (r ≡ 0 → ⊥) → after ≡ before
  pub tells : told ≡ filled r (take_words (taken_from before)) answer
  pub writes : written ≡ filled r (bytes_of_taken (taken_from before) bytes) bytes
