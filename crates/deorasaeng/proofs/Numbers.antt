-- The numbers: an answer of a wrong length is 2, or 1 where there is no such port; of the right length it has no say. Assumes nothing.
use mathlib.Core.Path.{◌≡◌, refl}
use mathlib.Core.Bool.{Bool, true, false, ◌||◌, cond}
use mathlib.Core.List.{List}
use Prim.Native.Nat.{ℕ}
use native.Mathlib.Omega.{arith}
use borrow.Author.Tests.{eq-eqb, ne_eqb}
use lib.Dec.{ltb}
use lib.ListN.{length}
use Rattle.network_message.specs.Decoding.{longest}
use Rattle.unit.specs.declared.Unit.{Unit}
use Rattle.unit.specs.Model.{Rest}
use Rattle.checks.specs.Ports.{no_port}
use Rattle.refusals.specs.Refusals.{frame_refusal, take_refusal, start_refusal, length_refusal, message_refusal}
use Rattle.unit.specs.PowerOn.{not_long}
use Rattle.bridge.specs.Calls.{silent_reply, messaged}
use Rattle.deorasaeng.specs.Interface.{not_of, lent_refusal, message_length, start_length, frame_number, take_number, message_number, replied_to, start_number, unit_number, counts_number, queue_number}
use Rattle.flat_answers.specs.Answers.{frame_length, take_length, bytes_length, unit_length, counts_length}

wrong : {published lent : ℕ} → (lent ≡ published → ⊥) → not_of published lent ≡ true
wrong {published} {lent} h = rw (ne_eqb lent published h)

right : {published lent : ℕ} → lent ≡ published → not_of published lent ≡ false
right {published} {lent} e = rw (eq-eqb lent published e)

-- ---- one check among those of number 2
or_true : (a : Bool) {b : Bool} → b ≡ true → a || b ≡ true
or_true true e = refl
or_true false e = e

or_true_first : {a : Bool} (b : Bool) → a ≡ true → a || b ≡ true
or_true_first b e = rw e

or_false : (a : Bool) {b : Bool} → b ≡ false → a || b ≡ a
or_false true e = refl
or_false false e = e

pub not_0 : (ports port : ℕ) → lent_refusal ports port ≡ 0 → ⊥
unfolding lent_refusal
not_0 ports port e = cases (no_port ports port) e
  where
    cases : (a : Bool) → ◌≡◌ {A = ℕ} (cond a 1 2) 0 → ⊥
    cases true e = omega arith
    cases false e = omega arith

module _ (ports lent lentAnswer port : ℕ) where
  pub frame_lent : (id len : ℕ) → (lentAnswer ≡ frame_length → ⊥) → lent_refusal ports port ≡ frame_number ports lent lentAnswer port id len
  unfolding lent_refusal frame_number
  frame_lent id len h = rw (or_true (not_long ports lent) (wrong h))

  pub frame_number_lem : (id len : ℕ) → lentAnswer ≡ frame_length → frame_number ports lent lentAnswer port id len ≡ frame_refusal ports lent port id len
  unfolding frame_number frame_refusal
  frame_number_lem id len e = rw (or_false (not_long ports lent) (right e))

  pub take_lent : (lentBytes : ℕ) → (lentAnswer ≡ take_length → ⊥) → lent_refusal ports port ≡ take_number ports lent lentAnswer lentBytes port
  unfolding lent_refusal take_number
  take_lent lentBytes h = rw (or_true_first (not_of bytes_length lentBytes) (or_true (not_long ports lent) (wrong h)))

  pub take_lent_bytes : (lentBytes : ℕ) → (lentBytes ≡ bytes_length → ⊥) → lent_refusal ports port ≡ take_number ports lent lentAnswer lentBytes port
  unfolding lent_refusal take_number
  take_lent_bytes lentBytes h = rw (or_true (not_long ports lent || not_of take_length lentAnswer) (wrong h))

  pub take_number_lem : (lentBytes : ℕ) → lentAnswer ≡ take_length → lentBytes ≡ bytes_length → take_number ports lent lentAnswer lentBytes port ≡ take_refusal ports lent port
  unfolding take_number take_refusal
  take_number_lem lentBytes e e' = rw (or_false (not_long ports lent || not_of take_length lentAnswer) (right e'), or_false (not_long ports lent) (right e))

  pub counts_lent : (lentAnswer ≡ counts_length → ⊥) → lent_refusal ports port ≡ counts_number ports lent lentAnswer port
  unfolding lent_refusal counts_number
  counts_lent h = rw (or_true (not_long ports lent) (wrong h))

  pub counts_number_lem : lentAnswer ≡ counts_length → counts_number ports lent lentAnswer port ≡ take_refusal ports lent port
  unfolding counts_number take_refusal
  counts_number_lem e = rw (or_false (not_long ports lent) (right e))

  module _ (lentReply : ℕ) (rest : Rest) (requester : ℕ) where
    message_lent : (size : ℕ) → (lentAnswer ≡ message_length → ⊥) → message_number ports lent lentReply lentAnswer rest port requester size ≡ lent_refusal ports port
    unfolding lent_refusal message_number
    message_lent size h = rw (or_true (not_long ports lent || ltb lentReply longest) (wrong h))

    message_number_lem : (size : ℕ) → lentAnswer ≡ message_length → message_number ports lent lentReply lentAnswer rest port requester size ≡ message_refusal ports lent lentReply rest port requester size
    unfolding message_number message_refusal
    message_number_lem size e = rw (or_false (not_long ports lent || ltb lentReply longest) (right e))

    -- an answer of a wrong length: nothing is written
    pub silent : (payload : List ℕ) → (lentAnswer ≡ message_length → ⊥) → replied_to ports lent lentReply lentAnswer rest port requester payload ≡ silent_reply (lent_refusal ports port) rest.pairs
    unfolding replied_to
    silent payload h = rw (message_lent (length payload) h, ne_eqb (lent_refusal ports port) 0 (not_0 ports port))

    pub replied_as : (payload : List ℕ) → lentAnswer ≡ message_length → replied_to ports lent lentReply lentAnswer rest port requester payload ≡ messaged ports lent lentReply rest port requester payload
    unfolding replied_to messaged
    replied_as payload e = rw (message_number_lem (length payload) e)

module _ (ports lent lentAnswer : ℕ) (own : Unit) where
  pub start_lent : (lentAnswer ≡ start_length → ⊥) → 2 ≡ start_number ports lent lentAnswer own
  unfolding start_number
  start_lent h = rw (or_true (not_long ports lent) (wrong h))

  pub start_number_lem : lentAnswer ≡ start_length → start_number ports lent lentAnswer own ≡ start_refusal ports lent own
  unfolding start_number start_refusal
  start_number_lem e = rw (or_false (not_long ports lent) (right e))

module _ (ports lent lentAnswer : ℕ) where
  pub unit_lent : (lentAnswer ≡ unit_length → ⊥) → 2 ≡ unit_number ports lent lentAnswer
  unfolding unit_number
  unit_lent h = rw (or_true (not_long ports lent) (wrong h))

  pub unit_number_lem : lentAnswer ≡ unit_length → unit_number ports lent lentAnswer ≡ length_refusal ports lent
  unfolding unit_number length_refusal
  unit_number_lem e = rw (or_false (not_long ports lent) (right e))

module _ (lentAnswer lentBytes : ℕ) where
  pub queue_lent : (lentAnswer ≡ take_length → ⊥) → 2 ≡ queue_number lentAnswer lentBytes
  unfolding queue_number
  queue_lent h = rw (wrong h)

  pub queue_lent_bytes : (lentBytes ≡ bytes_length → ⊥) → 2 ≡ queue_number lentAnswer lentBytes
  unfolding queue_number
  queue_lent_bytes h = rw (or_true (not_of take_length lentAnswer) (wrong h))

  pub queue_number_lem : lentAnswer ≡ take_length → lentBytes ≡ bytes_length → queue_number lentAnswer lentBytes ≡ 0
  unfolding queue_number
  queue_number_lem e e' = rw (right e, right e')
