-- From the bridge's contracts to those of the exported functions. Assumes nothing.
use mathlib.Core.Path.{◌≡◌, refl, sym, ◌∙◌}
use mathlib.Core.Bool.{cond}
use mathlib.Core.List.{List, [], ◌∷◌}
use Prim.Native.Nat.{ℕ}
use native.Mathlib.Decide.{ℕ_discrete}
use native.Mathlib.Omega.{arith}
use borrow.Author.Tests.{eq-eqb, ne_eqb}
use lib.Dec.{eqb}
use lib.ListN.{length}
use Rattle.std.specs.Prelude.{Option}
use Rattle.checks.specs.declared.refusal.Refusal.{Refusal}
use Rattle.checks.specs.Refusals.{number}
use Rattle.checks.proofs.Refusals.{number_positive}
use Rattle.queue.specs.declared.Frame.{Frame}
use Rattle.queue.specs.Queue.{Taking}
use Rattle.bridge.specs.Told.{FrameTold, TakeTold, Took, StartTold, UnitTold, CountsTold, Told}
use Rattle.message_answers.specs.Messages.{MessageTold}
use Rattle.unit.specs.declared.Unit.{Unit}
use Rattle.unit.specs.Model.{Model, model_of}
use Rattle.refusals.specs.Refusals.{frame_refusal, take_refusal, start_refusal, length_refusal}
use Rattle.bridge.specs.Calls.{Call, next, refusal, frame_passed, frame_answer, take_answer, gave, start_answer, unit_answer, counts_answer, Calling, Framing, TakingOut, Messaging, Starting, Reading, Counting}
use Rattle.deorasaeng.specs.Interface.{lent_refusal, Served, message_length, start_length, start_words, take_number, FrameCall, TakeCall, MessageCall, StartCall, UnitCall, CountsCall, QueueCall, queue_number}
use Rattle.flat_answers.specs.Answers.{frame_length, take_length, bytes_length, unit_length, counts_length, frame_words, take_words, bytes_of_taken, unit_words, counts_words, Telling}
use Rattle.deorasaeng.proofs.Numbers.{not_0, frame_lent, frame_number_lem, take_lent, take_lent_bytes, take_number_lem, silent, replied_as, start_lent, start_number_lem, unit_lent, unit_number_lem, counts_lent, counts_number_lem, queue_lent, queue_lent_bytes, queue_number_lem}

-- ---- a refusal has no number 0
pub not_none : (refusal : Refusal) → number refusal ≡ 0 → ⊥
not_none refusal z = let p = number_positive refusal in omega arith

-- ---- the record
-- refused before the record is touched
pub untouched : {ports : ℕ} {words : List ℕ} {k : Call} {r : ℕ} → (r ≡ 0 → ⊥) → Served ports words words k r
untouched {r = r} h = record { long = refl; state = rw (ne_eqb r 0 h); count = refl; refused = λ _. refl }

-- the bridge's call
pub served : {ports : ℕ} {before after : List ℕ} {k : Call} {r : ℕ} → r ≡ refusal ports (length before) (model_of ports before).rest k → Calling ports before after k → Served ports before after k r
served {ports} {before} {after} {k} {r} e C = record { long = C.long; state = state; count = C.count; refused = λ h. C.refused (λ z. h (e ∙ z)) }
  where
    state : model_of ports after ≡ cond (eqb r 0) (next ports (length before) (model_of ports before) k) (model_of ports before)
    state =
        elim (ℕ_discrete r 0) [
          | yes z ↦ rw (eq-eqb r 0 z) C.state
          | no h ↦ rw (ne_eqb r 0 h, C.refused (λ z. h (e ∙ z)))
        ]

-- ---- the numbers in the core's answers
pub frame_refusal_lem : (ports lent : ℕ) (m : Model) (port id : ℕ) (bytes : List ℕ) → (frame_answer ports lent m port id bytes).refusal ≡ frame_refusal ports lent port id (length bytes)
unfolding frame_answer frame_passed
frame_refusal_lem ports lent m port id bytes =
    elim (ℕ_discrete (frame_refusal ports lent port id (length bytes)) 0) [
      | yes z ↦ rw (eq-eqb (frame_refusal ports lent port id (length bytes)) 0 z) (sym z)
      | no h ↦ rw (ne_eqb (frame_refusal ports lent port id (length bytes)) 0 h)
    ]

take_refused : (ports lent : ℕ) (m : Model) (port number : ℕ) → TakeTold.Refused number ≡ take_answer ports lent m port → (number ≡ take_refusal ports lent port) × (number ≡ 0 → ⊥)
unfolding take_answer
take_refused ports lent m port number e =
    elim (ℕ_discrete (take_refusal ports lent port) 0) [
      | yes z ↦ let d = rw (eq-eqb (take_refusal ports lent port) 0 z) at e in absurd (let x : ◌≡◌ {A = ℕ} 0 1 = cc in omega arith)
      | no h ↦ let d = rw (ne_eqb (take_refusal ports lent port) 0 h) at e in let same : number ≡ take_refusal ports lent port = cc in (same, λ z. h (sym same ∙ z))
    ]

take_done : (ports lent : ℕ) (m : Model) (port : ℕ) (taken : Option Frame) → Took taken ≡ take_answer ports lent m port → take_refusal ports lent port ≡ 0
unfolding take_answer
take_done ports lent m port taken e =
    elim (ℕ_discrete (take_refusal ports lent port) 0) [
      | yes z ↦ z
      | no h ↦ let d = rw (ne_eqb (take_refusal ports lent port) 0 h) at e in absurd (let x : ◌≡◌ {A = ℕ} 0 1 = cc in omega arith)
    ]

pub start_refusal_lem : (ports lent : ℕ) (m : Model) → (start_answer ports lent m).refusal ≡ start_refusal ports lent m.rest.own
unfolding start_answer
start_refusal_lem ports lent m =
    elim (ℕ_discrete (start_refusal ports lent m.rest.own) 0) [
      | yes z ↦ rw (eq-eqb (start_refusal ports lent m.rest.own) 0 z) (sym z)
      | no h ↦ rw (ne_eqb (start_refusal ports lent m.rest.own) 0 h)
    ]

pub counts_refusal : (ports lent : ℕ) (m : Model) (port : ℕ) → (counts_answer ports lent m port).refusal ≡ take_refusal ports lent port
unfolding counts_answer
counts_refusal ports lent m port =
    elim (ℕ_discrete (take_refusal ports lent port) 0) [
      | yes z ↦ rw (eq-eqb (take_refusal ports lent port) 0 z) (sym z)
      | no h ↦ rw (ne_eqb (take_refusal ports lent port) 0 h)
    ]

-- ---- deorasaeng_frame
module _ {ports : ℕ} {before : List ℕ} {port id : ℕ} {bytes answer : List ℕ} {r : ℕ} where
  pub frame_wrong : r ≡ lent_refusal ports port → (length answer ≡ frame_length → ⊥) → FrameCall ports before before port id bytes answer answer r
  frame_wrong e h =
      let n : r ≡ 0 → ⊥ = λ z. not_0 ports port (sym e ∙ z) in
      record { number = e ∙ frame_lent ports (length before) (length answer) port id (length bytes) h; served = untouched n; tells = rw (ne_eqb r 0 n) }

module _ {ports : ℕ} {before after : List ℕ} {port id : ℕ} {bytes answer : List ℕ} {a : FrameTold} (F : Framing ports before after port id bytes a) (e : length answer ≡ frame_length) where
  frame_called : {told : List ℕ} {r : ℕ} → r ≡ a.refusal → told ≡ cond (eqb r 0) (frame_words a) answer → FrameCall ports before after port id bytes answer told r
  unfolding refusal
  frame_called {r = r} z t =
      let n : r ≡ frame_refusal ports (length before) port id (length bytes) = z ∙ rw F.answer (frame_refusal_lem ports (length before) (model_of ports before) port id bytes) in
      record {
        number = n ∙ sym (frame_number_lem ports (length before) (length answer) port id (length bytes) e);
        served = served n F.call;
        tells = rw (← F.answer) t;
      }

  pub frame_refused_lem : (a.refusal ≡ 0 → ⊥) → FrameCall ports before after port id bytes answer answer a.refusal
  frame_refused_lem h = frame_called refl (rw (ne_eqb a.refusal 0 h))

  pub frame_done_lem : {told : List ℕ} → a.refusal ≡ 0 → told ≡ frame_words a → FrameCall ports before after port id bytes answer told 0
  frame_done_lem z t = frame_called (sym z) t

-- ---- deorasaeng_take
module _ {ports : ℕ} {before : List ℕ} {port : ℕ} {answer bytes : List ℕ} {r : ℕ} where
  take_untouched : r ≡ lent_refusal ports port → r ≡ take_number ports (length before) (length answer) (length bytes) port → TakeCall ports before before port answer answer bytes bytes r
  take_untouched e n =
      let h : r ≡ 0 → ⊥ = λ z. not_0 ports port (sym e ∙ z) in
      record { number = n; served = untouched h; ahead = refl; behind = refl; tells = rw (ne_eqb r 0 h); writes = rw (ne_eqb r 0 h) }

  pub take_wrong : r ≡ lent_refusal ports port → (length answer ≡ take_length → ⊥) → TakeCall ports before before port answer answer bytes bytes r
  take_wrong e h = take_untouched e (e ∙ take_lent ports (length before) (length answer) port (length bytes) h)

  pub take_wrong_bytes : r ≡ lent_refusal ports port → (length bytes ≡ bytes_length → ⊥) → TakeCall ports before before port answer answer bytes bytes r
  take_wrong_bytes e h = take_untouched e (e ∙ take_lent_bytes ports (length before) (length answer) port (length bytes) h)

module _ {ports : ℕ} {before after : List ℕ} {port : ℕ} {answer bytes : List ℕ} {t : TakeTold} (T : TakingOut ports before after port t) (e : length answer ≡ take_length) (e' : length bytes ≡ bytes_length) where
  take_called : {told written : List ℕ} {r : ℕ} → r ≡ take_refusal ports (length before) port → told ≡ cond (eqb r 0) (take_words (gave t)) answer → written ≡ cond (eqb r 0) (bytes_of_taken (gave t) bytes) bytes
      → TakeCall ports before after port answer told bytes written r
  unfolding refusal
  take_called n t w = record {
    number = n ∙ sym (take_number_lem ports (length before) (length answer) port (length bytes) e e');
    served = served n T.call;
    ahead = T.ahead;
    behind = T.behind;
    tells = rw (← T.answer) t;
    writes = rw (← T.answer) w;
  }

  pub take_left : {number : ℕ} → t ≡ TakeTold.Refused number → TakeCall ports before after port answer answer bytes bytes number
  take_left {number} is =
      let R = take_refused ports (length before) (model_of ports before) port number (sym is ∙ T.answer) in
      take_called R.0 (rw (ne_eqb number 0 R.1)) (rw (ne_eqb number 0 R.1))

  pub take_told : {taken : Option Frame} {told written : List ℕ} → t ≡ Took taken → Telling told bytes written taken → TakeCall ports before after port answer told bytes written 0
  take_told {taken} is G =
      take_called (sym (take_done ports (length before) (model_of ports before) port taken (sym is ∙ T.answer))) (rw is G.tells) (rw is G.writes)

-- ---- deorasaeng_message
module _ {ports : ℕ} {before : List ℕ} {port requester : ℕ} {payload reply answer : List ℕ} where
  pub message_wrong : {r : ℕ} → r ≡ lent_refusal ports port → (length answer ≡ message_length → ⊥) → MessageCall ports before before port requester payload reply reply answer answer r
  message_wrong {r} e h =
      let n : r ≡ 0 → ⊥ = λ z. not_0 ports port (sym e ∙ z) in
      let S = silent ports (length before) (length answer) port (length reply) (model_of ports before).rest requester payload h in
      record { number = rw S e; served = untouched n; writes = rw S; tells = rw (ne_eqb (length answer) message_length h); called = λ z. absurd (h z) }

  pub message_done : {after back told : List ℕ} {a : MessageTold} → Messaging ports before after port requester payload reply back a → length answer ≡ message_length
      → told ≡ a.pgn ∷ a.length ∷ a.told.entry ∷ a.told.to ∷ a.told.pgn ∷ [] → MessageCall ports before after port requester payload reply back answer told a.refusal
  unfolding refusal
  message_done {a = a} M e t =
      let S = replied_as ports (length before) (length answer) port (length reply) (model_of ports before).rest requester payload e in
      record {
        number = rw (S, M.answer);
        served = served (rw M.answer) M.call;
        writes = rw S M.written;
        tells = rw (eq-eqb (length answer) message_length e, S) (t ∙ rw M.answer);
        called = λ _. rw M.answer at M;
      }

-- ---- deorasaeng_start
module _ {ports : ℕ} {before answer : List ℕ} where
  pub start_wrong : (length answer ≡ start_length → ⊥) → StartCall ports before before answer answer 2
  start_wrong h = record { number = start_lent ports (length before) (length answer) (model_of ports before).rest.own h; served = untouched (λ z. omega arith); tells = refl }

  module _ {after : List ℕ} {a : StartTold} (S : Starting ports before after a) (e : length answer ≡ start_length) where
    start_called : {told : List ℕ} {r : ℕ} → r ≡ a.refusal → told ≡ cond (eqb r 0) (start_words a) answer → StartCall ports before after answer told r
    unfolding refusal
    start_called {r = r} z t =
        let n : r ≡ start_refusal ports (length before) (model_of ports before).rest.own = z ∙ rw S.answer (start_refusal_lem ports (length before) (model_of ports before)) in
        record {
          number = n ∙ sym (start_number_lem ports (length before) (length answer) (model_of ports before).rest.own e);
          served = served n S.call;
          tells = rw (← S.answer) t;
        }

    pub start_refused_lem : (a.refusal ≡ 0 → ⊥) → StartCall ports before after answer answer a.refusal
    start_refused_lem h = start_called refl (rw (ne_eqb a.refusal 0 h))

    pub start_done : {told : List ℕ} → a.refusal ≡ 0 → told ≡ start_words a → StartCall ports before after answer told 0
    start_done z t = start_called (sym z) t

-- ---- deorasaeng_unit
unit_refused : (ports lent : ℕ) (m : Model) (number : ℕ) → UnitTold.Refused number ≡ unit_answer ports lent m → (number ≡ length_refusal ports lent) × (number ≡ 0 → ⊥)
unfolding unit_answer
unit_refused ports lent m number e =
    elim (ℕ_discrete (length_refusal ports lent) 0) [
      | yes z ↦ let d = rw (eq-eqb (length_refusal ports lent) 0 z) at e in absurd (let x : ◌≡◌ {A = ℕ} 0 1 = cc in omega arith)
      | no h ↦ let d = rw (ne_eqb (length_refusal ports lent) 0 h) at e in let same : number ≡ length_refusal ports lent = cc in (same, λ z. h (sym same ∙ z))
    ]

unit_done : (ports lent : ℕ) (m : Model) (own : Unit) → Told own ≡ unit_answer ports lent m → (length_refusal ports lent ≡ 0) × (own ≡ m.rest.own)
unfolding unit_answer
unit_done ports lent m own e =
    elim (ℕ_discrete (length_refusal ports lent) 0) [
      | yes z ↦ let d = rw (eq-eqb (length_refusal ports lent) 0 z) at e in (z, cc)
      | no h ↦ let d = rw (ne_eqb (length_refusal ports lent) 0 h) at e in absurd (let x : ◌≡◌ {A = ℕ} 0 1 = cc in omega arith)
    ]

module _ {ports : ℕ} {words answer : List ℕ} where
  pub unit_wrong : (length answer ≡ unit_length → ⊥) → UnitCall ports words answer answer 2
  unit_wrong h = record { number = unit_lent ports (length words) (length answer) h; served = untouched (λ z. omega arith); tells = refl }

  module _ {a : UnitTold} (R : Reading ports words a) (e : length answer ≡ unit_length) where
    unit_called : {told : List ℕ} {r : ℕ} → r ≡ length_refusal ports (length words) → told ≡ cond (eqb r 0) (unit_words (model_of ports words).rest.own) answer → UnitCall ports words answer told r
    unfolding refusal
    unit_called n t = record {
      number = n ∙ sym (unit_number_lem ports (length words) (length answer) e);
      served = served n R.call;
      tells = t;
    }

    pub unit_left : {number : ℕ} → a ≡ UnitTold.Refused number → UnitCall ports words answer answer number
    unit_left {number} is =
        let N = unit_refused ports (length words) (model_of ports words) number (sym is ∙ R.answer) in
        unit_called N.0 (rw (ne_eqb number 0 N.1))

    pub unit_told : {own : Unit} {told : List ℕ} → a ≡ Told own → told ≡ unit_words own → UnitCall ports words answer told 0
    unit_told {own} is t =
        let D = unit_done ports (length words) (model_of ports words) own (sym is ∙ R.answer) in
        unit_called (sym D.0) (rw (← D.1) t)

-- ---- deorasaeng_counts
module _ {ports : ℕ} {words : List ℕ} {port : ℕ} {answer : List ℕ} where
  pub counts_wrong : {r : ℕ} → r ≡ lent_refusal ports port → (length answer ≡ counts_length → ⊥) → CountsCall ports words port answer answer r
  counts_wrong {r} e h =
      let n : r ≡ 0 → ⊥ = λ z. not_0 ports port (sym e ∙ z) in
      record { number = e ∙ counts_lent ports (length words) (length answer) port h; served = untouched n; tells = rw (ne_eqb r 0 n) }

  module _ {a : CountsTold} (C : Counting ports words port a) (e : length answer ≡ counts_length) where
    counts_called : {told : List ℕ} {r : ℕ} → r ≡ a.refusal → told ≡ cond (eqb r 0) (counts_words a.tally) answer → CountsCall ports words port answer told r
    unfolding refusal
    counts_called {r = r} z t =
        let n : r ≡ take_refusal ports (length words) port = z ∙ rw C.answer (counts_refusal ports (length words) (model_of ports words) port) in
        record {
          number = n ∙ sym (counts_number_lem ports (length words) (length answer) port e);
          served = served n C.call;
          tells = rw (← C.answer) t;
        }

    pub counts_refused_lem : (a.refusal ≡ 0 → ⊥) → CountsCall ports words port answer answer a.refusal
    counts_refused_lem h = counts_called refl (rw (ne_eqb a.refusal 0 h))

    pub counts_done : {told : List ℕ} → a.refusal ≡ 0 → told ≡ counts_words a.tally → CountsCall ports words port answer told 0
    counts_done z t = counts_called (sym z) t

-- ---- deorasaeng_take_queue
module _ {before answer bytes : List ℕ} where
  queue_untouched : 2 ≡ queue_number (length answer) (length bytes) → QueueCall before before answer answer bytes bytes 2
  queue_untouched n = record { number = n; done = λ z. absurd (omega arith); refused = λ _. refl; tells = refl; writes = refl }

  pub queue_wrong : (length answer ≡ take_length → ⊥) → QueueCall before before answer answer bytes bytes 2
  queue_wrong h = queue_untouched (queue_lent (length answer) (length bytes) h)

  pub queue_wrong_bytes : (length bytes ≡ bytes_length → ⊥) → QueueCall before before answer answer bytes bytes 2
  queue_wrong_bytes h = queue_untouched (queue_lent_bytes (length answer) (length bytes) h)

  pub queue_told : {after told written : List ℕ} {taken : Option Frame} → Taking before after taken → length answer ≡ take_length → length bytes ≡ bytes_length
      → Telling told bytes written taken → QueueCall before after answer told bytes written 0
  queue_told T e e' G = record {
    number = sym (queue_number_lem (length answer) (length bytes) e e');
    done = λ _. rw (← T.answer) T;
    refused = λ h. absurd (h refl);
    tells = rw (← T.answer) G.tells;
    writes = rw (← T.answer) G.writes;
  }
