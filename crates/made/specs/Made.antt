-- A call that was made: the record as it was, the call's arguments, the answer, the record as it was left. Of each call what its function ensures is known, and
-- nothing else. No function requires anything: Cited.antt says that the clauses `requires` and `ensures` of the functions themselves, read off by the
-- toolchain, give just this. Assumes nothing.
use Rattle.message_answers.specs.Messages.{MessageTold}
use Rattle.bridge.specs.Told.{FrameTold, TakeTold, StartTold, UnitTold, CountsTold}
use Rattle.std.specs.Prelude.{List, ℕ}
use Rattle.unit.specs.Count.{ports_of}
use Rattle.unit.specs.PowerOn.{PoweringOn}
use Rattle.bridge.specs.Calls.{Framing, TakingOut, Messaging, Starting, Quieting, Reading, Counting}

-- power-on, with a NAME, a preferred address and a count of ports
pub data Powered : (words : List ℕ) (name preferred count r : ℕ) (after : List ℕ) → Type 0 where
  powered : (w w' : List ℕ) (name preferred count r : ℕ) → PoweringOn count w w' name preferred r
      → Powered w name preferred count r w'

-- a frame arrived at a port
pub data Arrived : (words : List ℕ) (port id : ℕ) (bytes : List ℕ) (r : FrameTold) (after : List ℕ) → Type 0 where
  arrived : (w w' b : List ℕ) (port id : ℕ) (r : FrameTold) → Framing (ports_of w) w w' port id b r
      → Arrived w port id b r w'

-- a take was made on a port
pub data Took : (words : List ℕ) (port : ℕ) (r : TakeTold) (after : List ℕ) → Type 0 where
  took : (w w' : List ℕ) (port : ℕ) (r : TakeTold) → TakingOut (ports_of w) w w' port r
      → Took w port r w'

-- a message was handed in, with a reply buffer `lent` that was left as `back`
pub data Handed : (words : List ℕ) (port requester : ℕ) (payload lent : List ℕ) (r : MessageTold) (after back : List ℕ) → Type 0 where
  handed : (w w' p b b' : List ℕ) (port requester : ℕ) (r : MessageTold) → Messaging (ports_of w) w w' port requester p b b' r
      → Handed w port requester p b r w' b'

-- Start
pub data Started : (words : List ℕ) (r : StartTold) (after : List ℕ) → Type 0 where
  started : (w w' : List ℕ) (r : StartTold) → Starting (ports_of w) w w' r
      → Started w r w'

-- Quiet
pub data Quieted : (words : List ℕ) (r : ℕ) (after : List ℕ) → Type 0 where
  quieted : (w w' : List ℕ) (r : ℕ) → Quieting (ports_of w) w w' r
      → Quieted w r w'

-- the unit was read: the record is lent to be read alone, so it is left as it was
pub data Told : (words : List ℕ) (r : UnitTold) → Type 0 where
  told : (w : List ℕ) (r : UnitTold) → Reading (ports_of w) w r
      → Told w r

-- so with the counts of a port
pub data Counted : (words : List ℕ) (port : ℕ) (r : CountsTold) → Type 0 where
  counted : (w : List ℕ) (port : ℕ) (r : CountsTold) → Counting (ports_of w) w port r
      → Counted w port r
