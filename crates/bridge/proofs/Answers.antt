-- The public contracts, by the way that the code went. Assumes nothing.
use mathlib.Core.Path.{◌≡◌, refl, sym, ap, ◌∙◌}
use mathlib.Core.Bool.{true, false}
use mathlib.Core.List.{List}
use Prim.Native.Nat.{ℕ, ◌-◌}
use native.Mathlib.Omega.{arith}
use borrow.Author.Tests.{eq-eqb, ne_eqb}
use lib.ListN.{length}
use Rattle.queue.specs.declared.Frame.{Frame}
use Rattle.queue.specs.declared.Tally.{Tally}
use Rattle.queue.specs.Queue.{taking, idle}
use Rattle.unit.specs.declared.Claim.TheVariants.{Claimed}
use Rattle.unit.specs.declared.Unit.{Unit}
use Rattle.unit.specs.Model.{Model, model_of, queue_on, record_length, with_own, with_rest}
use Rattle.unit.specs.Own.{consumes, is_claiming, moved}
use Rattle.refusals.specs.Refusals.{length_refusal, take_refusal, quiet_refusal}
use Rattle.std.specs.Prelude.{Option}
use Rattle.bridge.specs.Told.{TakeTold, UnitTold}
use Rattle.bridge.specs.Calls.{Call, FrameIn, TakeOut, Message, Start, Quiet, ReadUnit, ReadCounts, frame_of, refusal, rest_after, losses_after, asks, sends, performed, next, take_answer, unit_answer, counts_refused, counts_answer, Calling, TakingOut, Quieting, Reading, Counting}
use Rattle.record.specs.Steps.{RowTaking}
use Rattle.unit.proofs.Own.{own_ports}
use Rattle.unit.proofs.Ports.{each_none, each_one}
use Rattle.claims.proofs.Count.{acted_ports, started_ports}
use Rattle.record.proofs.Regions.{queues_long}
use Rattle.refusals.proofs.Checks.{take_goes}

-- ---- any call
-- no call changes the number of ports
performed_ports : (ports lent : ℕ) (m : Model) (k : Call) → (performed ports lent m k).rest.own.ports ≡ m.rest.own.ports
unfolding performed rest_after
performed_ports ports lent m (FrameIn port id bytes) = acted_ports m.rest port (consumes m.rest.own id) (frame_of id bytes)
performed_ports ports lent m (TakeOut port) = refl
performed_ports ports lent m (Message port requester payload lentReply) = refl
performed_ports ports lent m Start = started_ports m.rest
performed_ports ports lent m Quiet = refl
performed_ports ports lent m ReadUnit = refl
performed_ports ports lent m (ReadCounts port) = refl

module _ {ports : ℕ} {words : List ℕ} {k : Call} where
  pub call_refused : (refusal ports (length words) (model_of ports words).rest k ≡ 0 → ⊥) → Calling ports words words k
  unfolding next
  call_refused h = record {
    long = refl;
    state = rw (ne_eqb (refusal ports (length words) (model_of ports words).rest k) 0 h);
    count = refl;
    refused = λ _. refl;
  }

  pub call_done : {after : List ℕ} → refusal ports (length words) (model_of ports words).rest k ≡ 0 → length after ≡ length words → model_of ports after ≡ performed ports (length words) (model_of ports words) k → Calling ports words after k
  unfolding next
  call_done {after} done long state = record {
    long = long;
    state = rw (eq-eqb (refusal ports (length words) (model_of ports words).rest k) 0 done) state;
    count = sym (own_ports ports after) ∙ ap (λ (m : Model). m.rest.own.ports) state ∙ performed_ports ports (length words) (model_of ports words) k ∙ own_ports ports words;
    refused = λ h. absurd (h done);
  }

-- ---- take
module _ {ports : ℕ} {words : List ℕ} {port n : ℕ} (e : n ≡ take_refusal ports (length words) port) where
  pub take_refused : (n ≡ 0 → ⊥) → TakingOut ports words words port (TakeTold.Refused n)
  unfolding take_answer refusal
  take_refused h = record {
    call = call_refused (λ z. h (e ∙ z));
    answer = rw (← e, ne_eqb n 0 h);
    ahead = refl;
    behind = refl;
  }

  pub taken : {after : List ℕ} {r : Option Frame} → length after ≡ length words → n ≡ 0 → RowTaking ports words after (port - 1) r → TakingOut ports words after port (TakeTold.Took r)
  unfolding take_answer refusal performed rest_after losses_after asks sends
  taken long z T =
      let goes = take_goes ports (length words) port (sym e ∙ z) in
      record {
        call =
            call_done (sym e ∙ z) long
            (T.state
            ∙ ap (λ queues. record { rest = (model_of ports words).rest; queues = queues; seen = (model_of ports words).seen })
            (sym (each_one taking (port - 1) ports (model_of ports words).queues idle (omega (arith, goes.1, goes.2)) (omega (arith, goes.1, goes.2, queues_long ports words)))));
        answer = rw (← e, eq-eqb n 0 z) (ap TakeTold.Took T.answer);
        ahead = T.ahead;
        behind = T.behind;
      }

-- ---- Quiet
module _ {ports : ℕ} {words : List ℕ} where
  pub quiet_short : (length words ≡ record_length ports → ⊥) → Quieting ports words words 2
  unfolding quiet_refusal refusal
  quiet_short h =
      let e : 2 ≡ quiet_refusal ports (length words) (model_of ports words).rest.own = rw (ne_eqb (length words) (record_length ports) h) in
      record { call = call_refused (λ z. two_h (e ∙ z)); answer = e }
    where
      two_h : ◌≡◌ {A = ℕ} 2 0 → ⊥
      two_h z = omega arith

  module _ (full : length words ≡ record_length ports) where
    pub quiet_wrong : is_claiming (model_of ports words).rest.own.claim ≡ false → Quieting ports words words 18
    unfolding quiet_refusal refusal
    quiet_wrong f =
        let e : 18 ≡ quiet_refusal ports (length words) (model_of ports words).rest.own = rw (eq-eqb (length words) (record_length ports) full, f) in
        record { call = call_refused (λ z. h (e ∙ z)); answer = e }
      where
        h : ◌≡◌ {A = ℕ} 18 0 → ⊥
        h z = omega arith

    pub quieted : {after : List ℕ} → is_claiming (model_of ports words).rest.own.claim ≡ true → length after ≡ length words
        → model_of ports after ≡ with_rest (model_of ports words) (with_own (model_of ports words).rest (moved (model_of ports words).rest.own Claimed (model_of ports words).rest.own.address))
        → Quieting ports words after 0
    unfolding quiet_refusal refusal performed rest_after losses_after asks sends
    quieted t long state =
        let e : 0 ≡ quiet_refusal ports (length words) (model_of ports words).rest.own = rw (eq-eqb (length words) (record_length ports) full, t) in
        record {
          call =
              call_done (sym e) long
              (state ∙ rw (each_none ports (model_of ports words).queues));
          answer = e;
        }

-- ---- the unit is read
module _ {ports : ℕ} {words : List ℕ} where
  pub unit_short : (length words ≡ record_length ports → ⊥) → Reading ports words (UnitTold.Refused 2)
  unfolding length_refusal unit_answer refusal
  unit_short h =
      let e : 2 ≡ length_refusal ports (length words) = rw (ne_eqb (length words) (record_length ports) h) in
      record { call = call_refused (λ z. two (e ∙ z)); answer = rw (ne_eqb (length words) (record_length ports) h) }
    where
      two : ◌≡◌ {A = ℕ} 2 0 → ⊥
      two z = omega arith

  pub unit_read : {own : Unit} → length words ≡ record_length ports → own ≡ (model_of ports words).rest.own → Reading ports words (UnitTold.Told own)
  unfolding length_refusal unit_answer refusal performed rest_after losses_after asks sends
  unit_read full o =
      let e : 0 ≡ length_refusal ports (length words) = rw (eq-eqb (length words) (record_length ports) full) in
      record {
        call = call_done (sym e) refl (rw (each_none ports (model_of ports words).queues));
        answer = rw (eq-eqb (length words) (record_length ports) full, o);
      }

-- ---- the counts of a port are read
module _ {ports : ℕ} {words : List ℕ} {port n : ℕ} (e : n ≡ take_refusal ports (length words) port) where
  pub counts_refused_lem : (n ≡ 0 → ⊥) → Counting ports words port (counts_refused n)
  unfolding counts_answer refusal
  counts_refused_lem h = record { call = call_refused (λ z. h (e ∙ z)); answer = rw (← e, ne_eqb n 0 h) }

  pub counts_read : {t : Tally} → n ≡ 0 → t ≡ (queue_on (model_of ports words) (port - 1)).tally → Counting ports words port (record { refusal = 0; tally = t })
  unfolding counts_answer refusal performed rest_after losses_after asks sends
  counts_read z h = record {
    call = call_done (sym e ∙ z) refl (rw (each_none ports (model_of ports words).queues));
    answer = rw (← e, eq-eqb n 0 z, h);
  }
