-- No function of the unit requires anything, so of a call that was made what the function ensures holds. Assumes nothing.
use Rattle.message_answers.specs.Messages.{MessageTold}
use Rattle.bridge.specs.Told.{FrameTold, TakeTold, StartTold, UnitTold, CountsTold}
use mathlib.Core.List.{List}
use Prim.Native.Nat.{ℕ}
use Rattle.unit.specs.Count.{ports_of}
use Rattle.unit.specs.PowerOn.{PoweringOn}
use Rattle.bridge.specs.Calls.{Framing, TakingOut, Messaging, Starting, Quieting, Reading, Counting}
use Rattle.made.specs.Made.{Powered, powered, Arrived, arrived, Took, took, Handed, handed, Started, started, Quieted, quieted, Told, told, Counted, counted}

pub powering : {words after : List ℕ} {name preferred count r : ℕ} → Powered words name preferred count r after → PoweringOn count words after name preferred r
powering (powered w w' name preferred count r c) = c

pub framing : {words bytes after : List ℕ} {port id : ℕ} {r : FrameTold} → Arrived words port id bytes r after → Framing (ports_of words) words after port id bytes r
framing (arrived w w' b port id r c) = c

pub taking : {words after : List ℕ} {port : ℕ} {r : TakeTold} → Took words port r after → TakingOut (ports_of words) words after port r
taking (took w w' port r c) = c

pub messaging : {words payload lent after back : List ℕ} {port requester : ℕ} {r : MessageTold} → Handed words port requester payload lent r after back → Messaging (ports_of words) words after port requester payload lent back r
messaging (handed w w' p b b' port requester r c) = c

pub starting : {words after : List ℕ} {r : StartTold} → Started words r after → Starting (ports_of words) words after r
starting (started w w' r c) = c

pub quieting : {words after : List ℕ} {r : ℕ} → Quieted words r after → Quieting (ports_of words) words after r
quieting (quieted w w' r c) = c

pub reading : {words : List ℕ} {r : UnitTold} → Told words r → Reading (ports_of words) words r
reading (told w r c) = c

pub counting : {words : List ℕ} {port : ℕ} {r : CountsTold} → Counted words port r → Counting (ports_of words) words port r
counting (counted w port r c) = c
