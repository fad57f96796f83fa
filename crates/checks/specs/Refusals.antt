-- docs/RULES.md, "Numbers given back": the number of each refusal, and of an answer that may be one.
-- Assumes nothing.
use Rattle.std.specs.Prelude.{ℕ, Result, Ok, Err}
use Rattle.checks.specs.declared.refusal.Refusal.{Refusal}
use Rattle.checks.specs.declared.refusal.Refusal.TheVariants.{NoPort, WrongLength, WideIdentifier, LongFrame, WrongSource, NotClaimed, PayloadLength, NoAddress, UnknownFunction, NoPair, ForeignPair, WrongBody, WrongMode, NotCleared, Cleared, Full, Absent, WrongState, ManySessions, WrongPacket, WrongSize, WrongEntry, UnknownParameter, PortCount, OutsidePlan, TwoPaths, TwicePaired, FullTable, WrongAddress}

abbrev pub number : Refusal → ℕ
number NoPort = 1
number WrongLength = 2
number WideIdentifier = 3
number LongFrame = 4
number WrongSource = 5
number NotClaimed = 6
number PayloadLength = 7
number NoAddress = 8
number UnknownFunction = 9
number NoPair = 10
number ForeignPair = 11
number WrongBody = 12
number WrongMode = 13
number NotCleared = 14
number Cleared = 15
number Full = 16
number Absent = 17
number WrongState = 18
number ManySessions = 19
number WrongPacket = 20
number WrongSize = 21
number WrongEntry = 22
number UnknownParameter = 23
number PortCount = 27
number OutsidePlan = 28
number TwoPaths = 29
number TwicePaired = 30
number FullTable = 31
number WrongAddress = 32

-- 0 where an answer is no refusal
abbrev pub number_in : {T : Type 0} → Result T Refusal → ℕ
number_in (Ok given) = 0
number_in (Err refusal) = number refusal
