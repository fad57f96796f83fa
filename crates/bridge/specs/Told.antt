-- What a call answers, in the words of the rules: the number that it is refused with, 0 for none, and what is told; refused, the rest is empty.
-- Assumes nothing.
use Rattle.std.specs.Prelude.{ℕ, Bool, false, Option, None, Result, Ok, Err}
use Rattle.checks.specs.declared.refusal.Refusal.{Refusal}
use Rattle.checks.specs.Refusals.{number}
use Rattle.queue.specs.declared.Frame.{Frame}
use Rattle.queue.specs.declared.Tally.{Tally}
use Rattle.queue.specs.Queue.{idle}
use Rattle.address_claims.specs.declared.Event.{Event}
use Rattle.unit.specs.declared.Claim.{Claim}
use Rattle.unit.specs.declared.Claim.TheVariants.{Unstarted}
use Rattle.unit.specs.declared.Unit.{Unit}
use Rattle.bridge.specs.declared.FrameAnswer.{FrameAnswer}
use Rattle.bridge.specs.declared.Started.{Started}

-- ---- a frame
pub record FrameTold : Type 0 where
  pub refusal : ℕ
  pub consumed : Bool
  pub accepted : ℕ
  pub lost : ℕ
  pub event : Event
  pub unsent : ℕ
  pub compared : ℕ
  pub reasons : ℕ

-- "A refused frame has no ports, no event, is not consumed and compares 0."; no pair was asked
abbrev pub frame_refused : ℕ → FrameTold
frame_refused number = record {
  refusal = number;
  consumed = false;
  accepted = 0;
  lost = 0;
  event = Event.Nothing;
  unsent = 0;
  compared = 0;
  reasons = 0;
}

abbrev pub frame_done_told : FrameAnswer → FrameTold
frame_done_told a = record {
  refusal = 0;
  consumed = a.consumed;
  accepted = a.accepted;
  lost = a.lost;
  event = a.event;
  unsent = a.unsent;
  compared = a.compared;
  reasons = a.reasons;
}

abbrev pub frame_told : Result FrameAnswer Refusal → FrameTold
frame_told (Ok a) = frame_done_told a
frame_told (Err refusal) = frame_refused (number refusal)

-- ---- a take
pub data TakeTold : Type 0 where
  Refused : (number : ℕ) → TakeTold
  Took : (taken : Option Frame) → TakeTold

abbrev pub take_told : Result (Option Frame) Refusal → TakeTold
take_told (Ok taken) = Took taken
take_told (Err refusal) = Refused (number refusal)

-- the number that refused it, 0 for none, and what it gave
abbrev pub take_number : TakeTold → ℕ
take_number (Refused number) = number
take_number (Took taken) = 0

abbrev pub gave : TakeTold → Option Frame
gave (Refused number) = None
gave (Took taken) = taken

-- ---- Start
pub record StartTold : Type 0 where
  pub refusal : ℕ
  pub unsent : ℕ
  pub claim : Claim

-- a refused Start tells nothing: no port, and Unstarted
abbrev pub start_refused : ℕ → StartTold
start_refused number = record { refusal = number; unsent = 0; claim = Unstarted }

abbrev pub start_told : Result Started Refusal → StartTold
start_told (Ok a) = record { refusal = 0; unsent = a.unsent; claim = a.claim }
start_told (Err refusal) = start_refused (number refusal)

-- ---- the unit
pub data UnitTold : Type 0 where
  Refused : (number : ℕ) → UnitTold
  Told : (own : Unit) → UnitTold

abbrev pub unit_told : Result Unit Refusal → UnitTold
unit_told (Ok own) = UnitTold.Told own
unit_told (Err refusal) = UnitTold.Refused (number refusal)

-- the number that refused it, 0 for none
abbrev pub read_number : UnitTold → ℕ
read_number (UnitTold.Refused number) = number
read_number (UnitTold.Told own) = 0

-- ---- the counts of a port
pub record CountsTold : Type 0 where
  pub refusal : ℕ
  pub tally : Tally

-- docs/RULES.md, "How full a queue is": what is counted at a port; refused, nothing is told
abbrev pub counts_refused : ℕ → CountsTold
counts_refused number = record { refusal = number; tally = idle.tally }

abbrev pub counts_told : Result Tally Refusal → CountsTold
counts_told (Ok tally) = record { refusal = 0; tally = tally }
counts_told (Err refusal) = counts_refused (number refusal)
