-- One call, written down: an answer's words, the bytes that a call names, and the book's move by the contract of the call. Assumes nothing.
use mathlib.Core.Path.{◌≡◌, refl, sym, ap, ◌∙◌}
use mathlib.Core.Bool.{Bool, true, false, cond}
use mir.Val.{bool_byte}
use mathlib.Core.List.{List, [], ◌∷◌, append-nil}
use Prim.Native.Nat.{ℕ, ◌+◌, ◌-◌, ◌≤◌, min}
use native.Mathlib.Decide.{dec_lt}
use native.Mathlib.Nat.{zero-add}
use native.Mathlib.Omega.{arith}
use lib.ListN.{length, take, drop, drop_of_length-le}
use lib.Seq.{sets, sets-eq, drop-length, take_all, take-add, drop_at, length-take-le}
use Rattle.bridge.specs.Told.{FrameTold, TakeTold, StartTold, UnitTold, CountsTold}
use Rattle.message_answers.specs.Messages.{MessageTold}
use Rattle.unit.specs.Own.{claim_word}
use Rattle.unit.specs.Count.{ports_of}
use Rattle.unit.specs.Model.{record_length}
use Rattle.bridge.specs.Calls.{FrameIn, TakeOut, Message, Start, Quiet, ReadUnit, ReadCounts, Framing, TakingOut, Messaging, Starting, Quieting, Reading, Counting}
use Rattle.demand_3.specs.Demand3.{ToFrame, ToTake, ToUnit, ToCounts, answer}
use Rattle.witness.specs.Encoding.{part_of, padded, code}
use Rattle.witness.specs.Replay.{Stepping}

-- as many words as there is room for, stored from the first on, are the words
pub stored : (words room : List ℕ) → length room ≡ length words → sets room 0 words ≡ words
stored words room e = sets-eq words room 0 (omega arith) ∙ rw (zero-add (length words), ← e, drop-length room) (append-nil words)

-- a truth value as a word
pub flag : (b : Bool) → bool_byte b ≡ cond b 1 0
flag true = refl
flag false = refl

-- ---- the bytes that a call names
part_in : (bytes : List ℕ) (a e : ℕ) → a ≤ e → e ≤ length bytes → take (e - a) (drop a bytes) ≡ drop a (take e bytes)
part_in bytes a e h k =
    let s : e ≡ a + (e - a) = omega arith in
    sym (ap (λ n. drop a (take n bytes)) s ∙ rw (take-add a (e - a) bytes) (drop_at (take a bytes) (take (e - a) (drop a bytes)) a (length-take-le a bytes (omega arith))))

take_end : (bytes : List ℕ) (to : ℕ) → take (min to (length bytes)) bytes ≡ take to bytes
take_end bytes to =
    elim (dec_lt to (length bytes)) [
      | yes h ↦ let e : min to (length bytes) ≡ to = omega arith in rw e
      | no n ↦ take_all (min to (length bytes)) bytes (omega arith) ∙ sym (take_all to bytes (omega arith))
    ]

drop_start : (bytes : List ℕ) (from e : ℕ) → e ≤ length bytes → drop (min from e) (take e bytes) ≡ drop from (take e bytes)
drop_start bytes from e h =
    let l : length (take e bytes) ≡ e = length-take-le e bytes h in
    elim (dec_lt from e) [
      | yes k ↦ let z : min from e ≡ from = omega arith in rw z
      | no n ↦ drop_of_length-le (take e bytes) {i = min from e} (omega arith) ∙ sym (drop_of_length-le (take e bytes) {i = from} (omega arith))
    ]

pub part_is : (bytes : List ℕ) (from to a e : ℕ) → e ≡ min to (length bytes) → a ≡ min from e → take (e - a) (drop a bytes) ≡ part_of bytes from to
part_is bytes from to a e h k =
    let start : drop a (take e bytes) ≡ drop from (take e bytes) = rw k (drop_start bytes from e (omega arith)) in
    let end : drop from (take e bytes) ≡ drop from (take to bytes) = rw h (ap (λ l. drop from l) (take_end bytes to)) in
    part_in bytes a e (omega arith) (omega arith) ∙ start ∙ end

-- ---- one call, by its contract
module _ {w w' out : List ℕ} (long : length w ≡ record_length (ports_of w)) where
  pub frame_step : {port id : ℕ} {bytes : List ℕ} {r : FrameTold} → Framing (ports_of w) w w' port id bytes r → out ≡ code (ToFrame r) → Stepping w w' (FrameIn port id bytes) out
  unfolding answer
  frame_step l o = record { state = rw long at l.call.state; answer = o ∙ ap (λ r. code (ToFrame r)) (rw long at l.answer); ports = l.call.count }

  pub take_step : {port : ℕ} {r : TakeTold} → TakingOut (ports_of w) w w' port r → out ≡ code (ToTake r) → Stepping w w' (TakeOut port) out
  unfolding answer
  take_step l o = record { state = rw long at l.call.state; answer = o ∙ ap (λ r. code (ToTake r)) (rw long at l.answer); ports = l.call.count }

  pub message_step : {port requester : ℕ} {payload lent back : List ℕ} {r : MessageTold} → Messaging (ports_of w) w w' port requester payload lent back r
      → out ≡ padded (r.refusal ∷ r.pgn ∷ r.length ∷ r.told.entry ∷ r.told.to ∷ r.told.pgn ∷ []) → Stepping w w' (Message port requester payload (length lent)) out
  unfolding answer code
  message_step {r} l o = record {
    state = rw long at l.call.state;
    answer = o ∙ ap (λ (r : MessageTold). padded (r.refusal ∷ r.pgn ∷ r.length ∷ r.told.entry ∷ r.told.to ∷ r.told.pgn ∷ [])) (rw long at l.answer);
    ports = l.call.count;
  }

  pub start_step : {r : StartTold} → Starting (ports_of w) w w' r → out ≡ padded (r.refusal ∷ r.unsent ∷ claim_word r.claim ∷ []) → Stepping w w' Start out
  unfolding answer code
  start_step l o = record {
    state = rw long at l.call.state;
    answer = o ∙ ap (λ (r : StartTold). padded (r.refusal ∷ r.unsent ∷ claim_word r.claim ∷ [])) (rw long at l.answer);
    ports = l.call.count;
  }

  pub quiet_step : {r : ℕ} → Quieting (ports_of w) w w' r → out ≡ padded (r ∷ []) → Stepping w w' Quiet out
  unfolding answer code
  quiet_step l o = record {
    state = rw long at l.call.state;
    answer = o ∙ ap (λ r. padded (r ∷ [])) (rw long at l.answer);
    ports = l.call.count;
  }

-- the unit is read: the record stays
pub unit_step : {w out : List ℕ} {r : UnitTold} → length w ≡ record_length (ports_of w) → Reading (ports_of w) w r → out ≡ code (ToUnit r) → Stepping w w ReadUnit out
unfolding answer
unit_step long l o = record { state = rw long at l.call.state; answer = o ∙ ap (λ r. code (ToUnit r)) (rw long at l.answer); ports = l.call.count }

pub counts_step : {w out : List ℕ} {port : ℕ} {r : CountsTold} → length w ≡ record_length (ports_of w) → Counting (ports_of w) w port r → out ≡ code (ToCounts r) → Stepping w w (ReadCounts port) out
unfolding answer
counts_step long l o = record { state = rw long at l.call.state; answer = o ∙ ap (λ r. code (ToCounts r)) (rw long at l.answer); ports = l.call.count }
