-- 17 is the number of no other refusal. Assumes nothing.
use mathlib.Core.Path.{◌≡◌, refl}
use mathlib.Core.Bool.{false}
use lib.Dec.{eqb}
use Rattle.checks.specs.declared.refusal.Refusal.{Refusal}
use Rattle.checks.specs.declared.refusal.Refusal.TheVariants.{NoPort, WrongLength, WideIdentifier, LongFrame, WrongSource, NotClaimed, PayloadLength, NoAddress, UnknownFunction, NoPair, ForeignPair, WrongBody, WrongMode, NotCleared, Cleared, Full, Absent, WrongState, ManySessions, WrongPacket, WrongSize, WrongEntry, UnknownParameter, PortCount, OutsidePlan, TwoPaths, TwicePaired, FullTable, WrongAddress}
use Rattle.checks.specs.Refusals.{number}

pub not_17 : (refusal : Refusal) → (refusal ≡ Absent → ⊥) → eqb (number refusal) 17 ≡ false
not_17 NoPort other = refl
not_17 WrongLength other = refl
not_17 WideIdentifier other = refl
not_17 LongFrame other = refl
not_17 WrongSource other = refl
not_17 NotClaimed other = refl
not_17 PayloadLength other = refl
not_17 NoAddress other = refl
not_17 UnknownFunction other = refl
not_17 NoPair other = refl
not_17 ForeignPair other = refl
not_17 WrongBody other = refl
not_17 WrongMode other = refl
not_17 NotCleared other = refl
not_17 Cleared other = refl
not_17 Full other = refl
not_17 Absent other = absurd (other refl)
not_17 WrongState other = refl
not_17 ManySessions other = refl
not_17 WrongPacket other = refl
not_17 WrongSize other = refl
not_17 WrongEntry other = refl
not_17 UnknownParameter other = refl
not_17 PortCount other = refl
not_17 OutsidePlan other = refl
not_17 TwoPaths other = refl
not_17 TwicePaired other = refl
not_17 FullTable other = refl
not_17 WrongAddress other = refl
