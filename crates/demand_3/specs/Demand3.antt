-- Demand 3: ONE claim about every list of calls on one unit, from a power-on on. `demand_3` of proofs/Demand3.antt proves `EveryList`.
-- Words in quotes are the customer's demand 3; those after RULES are of docs/RULES.md, "Delivery".
-- In this file ports are counted from 0: port q is the customer's port q + 1. Assumes nothing.
--
-- The parts, in order:
--   1. the calls, as the real functions make them: of each only its contract is known (Made.antt)
--   2. the book of docs/RULES.md, here `Model`, fed the calls' arguments alone
--   3. what a call sends and asks, read on the book: the bridge as a product
--   4. the claim
-- What demand 3 says of any product is `Obeys` of the crate `delivery` (specs/Product.antt): when a frame leaves, once, unchanged, what a take gives.
use Rattle.bridge.specs.Told.{FrameTold, TakeTold, StartTold, UnitTold, CountsTold, Took}
use Rattle.std.specs.Prelude.{◌≡◌, Bool, true, not, ◌&&◌, cond, ◌↔◌, ◌⊎◌, ℕ, suc, ◌+◌, ◌-◌, ◌%◌, ◌≤◌, ◌<◌, eqb, ltb, leb, length, take, get_or, Option, None}
use mathlib.Core.List.{List, [], ◌∷◌, ◌++◌, Memᴰ}
use Rattle.storage.specs.Bytes.{bytes_of}
use Rattle.delivery.specs.Calls.{Run, after_calls, answers_of}
use Rattle.delivery.specs.Unit.{join_all}
use Rattle.delivery.specs.Product.{Product, Answered, Obeys}
use Rattle.queue.specs.declared.Frame.{Frame}
use Rattle.queue.specs.Queue.{size, priority}
use Rattle.unit.specs.declared.Unit.{Unit}
use Rattle.unit.specs.Count.{count_of}
use Rattle.unit.specs.Ports.{bit_at, digit_at}
use Rattle.unit.specs.Model.{Rest, Model, row_at, record_length, model_of}
use Rattle.refusals.specs.Refusals.{quiet_refusal}
use Rattle.bridge.specs.Calls.{frame_of, offered}
use Rattle.forwarding.specs.Forwarding.{sent_if}
use Rattle.bridge.specs.Calls.{messaged}
use Rattle.unit.specs.Own.{frames_sent}
use Rattle.claims.specs.Claims.{started}
use Rattle.bridge.specs.Calls.{Call, FrameIn, TakeOut, Message, Start, Quiet, ReadUnit, ReadCounts, refusal, rest_after, frame_done, frame_answer, take_answer, take_number, start_answer, unit_answer, read_number, counts_answer}
use Rattle.message_answers.specs.Messages.{message_answer, MessageTold}
use Rattle.unit.specs.PowerOn.{fresh}
use Rattle.bridge.specs.Calls.{next as next_of, asks as asks_of}
use Rattle.made.specs.Made as made

-- ---- 1. the calls
-- `Call` of the bridge is a call by its arguments: FrameIn, TakeOut, Message, Start, Quiet, ReadUnit, ReadCounts. This is what it was answered; of a message also the reply,
-- the bytes that were written to the buffer. (That those behind it are untouched is in the contract of `message`.)
pub data Answer : Type 0 where
  ToFrame : FrameTold → Answer
  ToTake : TakeTold → Answer
  ToMessage : MessageTold → (reply : List ℕ) → Answer
  ToStart : StartTold → Answer
  ToQuiet : ℕ → Answer
  ToUnit : UnitTold → Answer
  ToCounts : CountsTold → Answer

-- A call was made on the record w by the real function, of which the contract alone is known (Made.antt), and left the record as w'.
pub data Made : List ℕ → Call → Answer → List ℕ → Type 0 where
  frame_made : {w bytes w' : List ℕ} {port id : ℕ} {r : FrameTold} → made.Arrived w port id bytes r w' → Made w (FrameIn port id bytes) (ToFrame r) w'
  take_made : {w w' : List ℕ} {port : ℕ} {r : TakeTold} → made.Took w port r w' → Made w (TakeOut port) (ToTake r) w'
  message_made : {w payload lent w' back : List ℕ} {port requester : ℕ} {r : MessageTold} → made.Handed w port requester payload lent r w' back
      → Made w (Message port requester payload (length lent)) (ToMessage r (take r.length back)) w'
  start_made : {w w' : List ℕ} {r : StartTold} → made.Started w r w' → Made w Start (ToStart r) w'
  quiet_made : {w w' : List ℕ} {r : ℕ} → made.Quieted w r w' → Made w Quiet (ToQuiet r) w'
  unit_made : {w : List ℕ} {r : UnitTold} → made.Told w r → Made w ReadUnit (ToUnit r) w
  counts_made : {w : List ℕ} {port : ℕ} {r : CountsTold} → made.Counted w port r → Made w (ReadCounts port) (ToCounts r) w

-- No call is missing: whatever the unit's functions were called with is such a call.
pub record EveryCall : Type 0 where
  pub frames : {w bytes w' : List ℕ} {port id : ℕ} {r : FrameTold} → made.Arrived w port id bytes r w' → Made w (FrameIn port id bytes) (ToFrame r) w'
  pub takes : {w w' : List ℕ} {port : ℕ} {r : TakeTold} → made.Took w port r w' → Made w (TakeOut port) (ToTake r) w'
  pub messages : {w payload lent w' back : List ℕ} {port requester : ℕ} {r : MessageTold} → made.Handed w port requester payload lent r w' back
      → Made w (Message port requester payload (length lent)) (ToMessage r (take r.length back)) w'
  pub starts : {w w' : List ℕ} {r : StartTold} → made.Started w r w' → Made w Start (ToStart r) w'
  pub quiets : {w w' : List ℕ} {r : ℕ} → made.Quieted w r w' → Made w Quiet (ToQuiet r) w'
  pub tells : {w : List ℕ} {r : UnitTold} → made.Told w r → Made w ReadUnit (ToUnit r) w
  pub counts : {w : List ℕ} {port : ℕ} {r : CountsTold} → made.Counted w port r → Made w (ReadCounts port) (ToCounts r) w

-- ---- 2. the book
-- All of it is over the number of ports, chosen at power-on.
module _ (ports : ℕ) where
  -- the words of a record
  abbrev pub words : ℕ
  words = record_length ports

  -- What a call does to the book, by its arguments alone. A call that `refusal` gives a number changes nothing (`next_of`).
  abbrev pub next : Model → Call → Model
  next m k = next_of ports words m k

  -- What it answers.
  unfoldable pub answer : Model → Call → Answer
  answer m (FrameIn port id bytes) = ToFrame (frame_answer ports words m port id bytes)
  answer m (TakeOut port) = ToTake (take_answer ports words m port)
  answer m (Message port requester payload lentReply) =
      ToMessage (message_answer (messaged ports words lentReply m.rest port requester payload) m.seen)
      ((messaged ports words lentReply m.rest port requester payload).written m.seen)
  answer m Start = ToStart (start_answer ports words m)
  answer m Quiet = ToQuiet (quiet_refusal ports words m.rest.own)
  answer m ReadUnit = ToUnit (unit_answer ports words m)
  answer m (ReadCounts port) = ToCounts (counts_answer ports words m port)

  -- ---- 3. what a call sends and asks
  -- What the book keeps besides the rows has all the say; a refused call asks nothing, sends nothing and changes nothing.
  abbrev pub goes : Rest → Call → Bool
  goes rest k = eqb (refusal ports words rest k) 0

  unfoldable pub rest_next : Rest → Call → Rest
  rest_next rest k = cond (goes rest k) (rest_after ports words rest k) rest

  -- "Takes on that port alone are counted, refused ones not": the port of a take that isn't refused.
  unfoldable pub asks : Rest → Call → Option ℕ
  asks rest k = cond (goes rest k) (asks_of k) None

  -- Rules 1 and 2: the frame, as it was handed in, that is sent to port q.
  abbrev pub forwarded : Rest → Call → ℕ → List Frame
  forwarded rest (FrameIn port id bytes) q = sent_if (offered ports rest (port - 1) id q) (frame_of id bytes)
  forwarded rest (TakeOut port) q = []
  forwarded rest (Message port requester payload lentReply) q = []
  forwarded rest Start q = []
  forwarded rest Quiet q = []
  forwarded rest ReadUnit q = []
  forwarded rest (ReadCounts port) q = []

  unfoldable pub forwards : Rest → Call → ℕ → List Frame
  forwards rest k q = cond (goes rest k) (forwarded rest k q) []

  -- "The unit's own too": the frame that the unit sends to every port, because of a claim or a request, or at Start.
  abbrev pub announced : Rest → Call → List Frame
  announced rest (FrameIn port id bytes) = frames_sent (frame_done rest port (frame_of id bytes)).sent
  announced rest (TakeOut port) = []
  announced rest (Message port requester payload lentReply) = []
  announced rest Start = frames_sent (started rest).sent
  announced rest Quiet = []
  announced rest ReadUnit = []
  announced rest (ReadCounts port) = []

  unfoldable pub announces : Rest → Call → List Frame
  announces rest k = cond (goes rest k) (announced rest k) []

  abbrev pub sends : Rest → Call → ℕ → List Frame
  sends rest k q = forwards rest k q ++ announces rest k

  -- The bridge as a product: its book, and a take with what it gave.
  abbrev pub bridge : Product Frame Rest Model Call Answer
  bridge = record {
    priority = priority;
    size = size;
    ports = ports;
    rest = λ m. m.rest;
    row = row_at;
    next = next;
    answer = answer;
    rest_next = rest_next;
    asks = asks;
    sends = sends;
    take_on = λ q. TakeOut (suc q);
    took = λ o. ToTake (Took o);
  }

-- ---- 4. the claim
-- The number in an answer, 0 where the call isn't refused.
abbrev pub number_in : Answer → ℕ
number_in (ToFrame r) = r.refusal
number_in (ToTake r) = take_number r
number_in (ToMessage r reply) = r.refusal
number_in (ToStart r) = r.refusal
number_in (ToQuiet number) = number
number_in (ToUnit r) = read_number r
number_in (ToCounts r) = r.refusal

-- The ports that an answer names, as bits: bit q for port q.
abbrev pub accepted_ports : Answer → ℕ
accepted_ports (ToFrame r) = r.accepted
accepted_ports (ToTake r) = 0
accepted_ports (ToMessage r reply) = 0
accepted_ports (ToStart r) = 0
accepted_ports (ToQuiet number) = 0
accepted_ports (ToUnit r) = 0
accepted_ports (ToCounts r) = 0

abbrev pub lost_ports : Answer → ℕ
lost_ports (ToFrame r) = r.lost
lost_ports (ToTake r) = 0
lost_ports (ToMessage r reply) = 0
lost_ports (ToStart r) = 0
lost_ports (ToQuiet number) = 0
lost_ports (ToUnit r) = 0
lost_ports (ToCounts r) = 0

abbrev pub own_lost_ports : Answer → ℕ
own_lost_ports (ToFrame r) = r.unsent
own_lost_ports (ToTake r) = 0
own_lost_ports (ToMessage r reply) = 0
own_lost_ports (ToStart r) = r.unsent
own_lost_ports (ToQuiet number) = 0
own_lost_ports (ToUnit r) = 0
own_lost_ports (ToCounts r) = 0

-- The reasons that an answer tells, a digit to the base 16 for each port: digit q for port q.
abbrev pub reasons_in : Answer → ℕ
reasons_in (ToFrame r) = r.reasons
reasons_in (ToTake r) = 0
reasons_in (ToMessage r reply) = 0
reasons_in (ToStart r) = 0
reasons_in (ToQuiet number) = 0
reasons_in (ToUnit r) = 0
reasons_in (ToCounts r) = 0

-- A frame crosses with the reasons 1 permanent, 2 cleared, 3 listed in pass and 4 not listed in block; not with 5 and 6, nor where no pair is asked, 0.
abbrev pub crossing : ℕ → Bool
crossing reason = leb 1 reason && leb reason 4

-- Which ports are accepted and lost follows from the reason that is told for each, and from room. The call found the book m and was answered
-- x; q is any number.
pub record ByReason (m : Model) (x : Answer) (q : ℕ) : Type 0 where
  pub accepted : bit_at (accepted_ports x) q ≡ crossing (digit_at (reasons_in x) q) && ltb (length (row_at m q)) 32
  pub lost : bit_at (lost_ports x) q ≡ crossing (digit_at (reasons_in x) q) && not (ltb (length (row_at m q)) 32)

-- Something was sent.
abbrev pub Sent : List Frame → Type 0
Sent fs = fs ≡ [] → ⊥

module _ (ports : ℕ) where
  -- RULES: "The ports that an answer tells as accepted or lost, or where the unit's own frame was lost, are those of rule 3 in the book." The call k found
  -- the book m and was answered x; q is any number.
  pub record Rule3 (m : Model) (k : Call) (x : Answer) (q : ℕ) : Type 0 where
    -- accepted exactly if q is a port, a frame was sent there and fewer than 32 waited
    pub accepted : (bit_at (accepted_ports x) q ≡ true) ↔ ((q < ports) × (Sent (forwards ports m.rest k q) × (length (row_at m q) < size)))
    -- lost exactly if q is a port, a frame was sent there and 32 waited
    pub lost : (bit_at (lost_ports x) q ≡ true) ↔ ((q < ports) × (Sent (forwards ports m.rest k q) × (size ≤ length (row_at m q))))
    -- the unit's own lost exactly if q is a port, the unit sent one and 32 waited once the forwarded frame had joined
    pub own_lost : (bit_at (own_lost_ports x) q ≡ true)
        ↔ ((q < ports) × (Sent (announces ports m.rest k) × (size ≤ length (join_all size (row_at m q) (forwards ports m.rest k q)))))

-- RULES: "Unchanged means that identifier, length and bytes are those handed in, or for the unit's own frame those of ‘Addresses’": 18EEFF00 (hex) plus its
-- address, or 18EEFFFE, length 8, its NAME. `own` is the unit as the call k leaves it.
pub data AsHandedIn (own : Unit) (k : Call) (f : Frame) : Type 0 where
  handed : (port id : ℕ) (bytes : List ℕ) → k ≡ FrameIn port id bytes → f.id ≡ id → f.len ≡ length bytes → bytes_of (length bytes) f.bytes ≡ bytes
      → AsHandedIn own k f
  of_unit : (f.id ≡ 0x18EEFF00 + own.address) ⊎ (f.id ≡ 0x18EEFFFE) → f.len ≡ 8 → f.bytes ≡ own.name → AsHandedIn own k f

-- the bytes of a frame that is handed in
abbrev pub bytes_in : Call → List ℕ
bytes_in (FrameIn port id bytes) = bytes
bytes_in (TakeOut port) = []
bytes_in (Message port requester payload lentReply) = []
bytes_in Start = []
bytes_in Quiet = []
bytes_in ReadUnit = []
bytes_in (ReadCounts port) = []

module _ (ports name preferred : ℕ) where
  -- RULES: "Power-on, with any NAME and preferred address, makes it fresh." "It is made of the calls' arguments alone, of no answer and nothing of the
  -- unit's record."
  abbrev pub model_after : List Call → Model
  model_after ks = after_calls (next ports) (fresh ports name preferred) ks

  -- The calls ks were made from power-on on, were answered xs and left the record v.
  pub record Demand3 (ks : List Call) (xs : List Answer) (v : List ℕ) : Type 0 where
    -- Every answer, and what the record means, is the book's.
    pub answers : xs ≡ answers_of (next ports) (answer ports) (fresh ports name preferred) ks
    pub state : model_of ports v ≡ model_after ks
    -- RULES: "A call that ‘Numbers given back’, read on the book, refuses changes nothing, and the unit refuses just these."
    pub refuses : (js : List Call) (k : Call) (x : Answer) → Answered ks xs js k x → number_in x ≡ refusal ports (words ports) (model_after js).rest k
    pub unmoved : (js : List Call) (k : Call) → (refusal ports (words ports) (model_after js).rest k ≡ 0 → ⊥) → model_after (js ++ (k ∷ [])) ≡ model_after js
    -- "The ports that answers name as accepted or lost are those of" the book
    pub named : (js : List Call) (k : Call) (x : Answer) → Answered ks xs js k x → (q : ℕ) → Rule3 ports (model_after js) k x q
    pub reasoned : (js : List Call) (k : Call) (x : Answer) → Answered ks xs js k x → (q : ℕ) → ByReason (model_after js) x q
    -- When and where every accepted frame leaves, and what every take gives. What is accepted is what a call sent.
    pub obeys : Obeys (bridge ports) (fresh ports name preferred) ks xs
    -- And what a call sends is what was handed in to it, or the unit's own frame, with the NAME of power-on.
    pub unchanged : (js : List Call) (k : Call) (q : ℕ) (f : Frame) → ((i : ℕ) → get_or (bytes_in k) i 0 < 256) → Memᴰ f (sends ports (model_after js).rest k q)
        → AsHandedIn (model_after (js ++ (k ∷ []))).rest.own k f
    pub named_so : (js : List Call) → (model_after js).rest.own.name ≡ name

-- The whole claim: power-on was called on the words w, whatever they held, with any NAME, any preferred address and any count of ports, was answered r and
-- left u.
pub record EveryList (w u : List ℕ) (name preferred count r : ℕ) : Type 0 where
  pub calls : EveryCall
  -- "For every list of calls on one unit from one power-on to the next (frames, takes, messages, Start and Quiet, refused ones too)", each given the record
  -- as the last call left it (`Run`).
  pub every : (r ≡ 2 → ⊥) → (ks : List Call) (xs : List Answer) (v : List ℕ) → Run Made u ks xs v → Demand3 (count_of count) name preferred ks xs v
  -- ticket 10: "a number of ports from 2 to 8, chosen at power-on"; 27 "then hands back the unit as with four ports; that counts as a power-on"
  pub chosen : r ≡ 0 → (count_of count ≡ count) × (2 ≤ count) × (count ≤ 8)
  pub four : r ≡ 27 → count_of count ≡ 4
  -- A power-on that is refused with 2 is none: it leaves every word as it was.
  pub none : r ≡ 2 → u ≡ w
