-- No refusal has the number 0, which an answer has that is none. Assumes nothing.
use Rattle.std.specs.Prelude.{◌<◌}
use Rattle.std.proofs.Common.{arith}
use Rattle.checks.specs.declared.refusal.Refusal.{Refusal}
use Rattle.checks.specs.declared.refusal.Refusal.TheVariants.{NoPort, WrongLength, WideIdentifier, LongFrame, WrongSource, NotClaimed, PayloadLength, NoAddress, UnknownFunction, NoPair, ForeignPair, WrongBody, WrongMode, NotCleared, Cleared, Full, Absent, WrongState, ManySessions, WrongPacket, WrongSize, WrongEntry, UnknownParameter, PortCount, OutsidePlan, TwoPaths, TwicePaired, FullTable, WrongAddress}
use Rattle.checks.specs.Refusals.{number}

pub number_positive : (refusal : Refusal) → 0 < number refusal
number_positive NoPort = omega arith
number_positive WrongLength = omega arith
number_positive WideIdentifier = omega arith
number_positive LongFrame = omega arith
number_positive WrongSource = omega arith
number_positive NotClaimed = omega arith
number_positive PayloadLength = omega arith
number_positive NoAddress = omega arith
number_positive UnknownFunction = omega arith
number_positive NoPair = omega arith
number_positive ForeignPair = omega arith
number_positive WrongBody = omega arith
number_positive WrongMode = omega arith
number_positive NotCleared = omega arith
number_positive Cleared = omega arith
number_positive Full = omega arith
number_positive Absent = omega arith
number_positive WrongState = omega arith
number_positive ManySessions = omega arith
number_positive WrongPacket = omega arith
number_positive WrongSize = omega arith
number_positive WrongEntry = omega arith
number_positive UnknownParameter = omega arith
number_positive PortCount = omega arith
number_positive OutsidePlan = omega arith
number_positive TwoPaths = omega arith
number_positive TwicePaired = omega arith
number_positive FullTable = omega arith
number_positive WrongAddress = omega arith
