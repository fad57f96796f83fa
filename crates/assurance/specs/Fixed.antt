-- What is told fixes the result that it is told of: each refusal has a number of its own, none has 0, and no two results of a call are told alike, but for a message's
-- `Refused(Absent)` and `Refused(WrongEntry)`, told as a 17 and a 22 that name no entry; each that a message is answered names one. Proved as `fixed` in proofs/Fixed.antt.
-- Assumes nothing.
use Rattle.std.specs.Prelude.{List, ℕ, Option, Result, Err, ◌≡◌, ⊤}
use Rattle.checks.specs.declared.refusal.Refusal.{Refusal}
use Rattle.checks.specs.Refusals.{number, number_in}
use Rattle.queue.specs.declared.Frame.{Frame}
use Rattle.queue.specs.declared.Tally.{Tally}
use Rattle.unit.specs.declared.Unit.{Unit}
use Rattle.message_answers.specs.declared.Denied.{Denied}
use Rattle.message_answers.specs.declared.MessageAnswer.{MessageAnswer}
use Rattle.message_answers.specs.Messages.{MessageTold, nothing_told}
use Rattle.message_answers.specs.Answers.{message_told}
use Rattle.bridge.specs.declared.FrameAnswer.{FrameAnswer}
use Rattle.bridge.specs.declared.Started.{Started as StartAnswer}
use Rattle.bridge.specs.Told.{frame_told, take_told, start_told, unit_told, counts_told}
use Rattle.made.specs.Made.{Handed}

-- "With 22 the answer to the caller gives the first such entry's number from 1. .. For 17, give the first pair in rising To order and the first PGN in it that is absent."
abbrev pub NamesEntry : MessageTold → Type 0
NamesEntry t = t.told ≡ nothing_told → (t.refusal ≡ 17 → ⊥) × (t.refusal ≡ 22 → ⊥)

-- the two outcomes that would be told as a 17 and a 22 that name none
abbrev pub IsPlain : Result ⊤ Denied → Type 0
IsPlain outcome = (outcome ≡ Err (Denied.Refused Refusal.Absent) → ⊥) × (outcome ≡ Err (Denied.Refused Refusal.WrongEntry) → ⊥)

pub record Fixed : Type 0 where
  pub refusal : (a b : Refusal) → number a ≡ number b → a ≡ b
  pub refused : (a : Refusal) → number a ≡ 0 → ⊥
  -- power-on and Quiet
  pub done : (a b : Result ⊤ Refusal) → number_in a ≡ number_in b → a ≡ b
  pub frame : (a b : Result FrameAnswer Refusal) → frame_told a ≡ frame_told b → a ≡ b
  pub take : (a b : Result (Option Frame) Refusal) → take_told a ≡ take_told b → a ≡ b
  pub start : (a b : Result StartAnswer Refusal) → start_told a ≡ start_told b → a ≡ b
  pub unit : (a b : Result Unit Refusal) → unit_told a ≡ unit_told b → a ≡ b
  pub counts : (a b : Result Tally Refusal) → counts_told a ≡ counts_told b → a ≡ b
  pub plain : (a b : MessageAnswer) → message_told a ≡ message_told b → IsPlain a.outcome → IsPlain b.outcome → a ≡ b
  pub message : (a b : MessageAnswer) → message_told a ≡ message_told b → NamesEntry (message_told a) → a ≡ b
  pub named : {words payload lent after back : List ℕ} {port requester : ℕ} {t : MessageTold} → Handed words port requester payload lent t after back → NamesEntry t
