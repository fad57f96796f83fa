-- The number and the ports that the book's answers name: refusals, and rule 3 at each port. Assumes nothing.
use Rattle.bridge.specs.Told.{FrameTold, StartTold, CountsTold}
use Rattle.std.specs.Prelude.{Option, Some, None}
use mathlib.Core.Path.{◌≡◌, refl, sym, ◌∙◌}
use mathlib.Core.Bool.{Bool, true, false, not, ◌&&◌, cond}
use mathlib.Core.Logic.{◌↔◌}
use mathlib.Core.List.{List, [], ◌∷◌}
use Prim.Native.Nat.{ℕ, ◌-◌, ◌^◌, ◌≤◌, ◌<◌}
use native.Mathlib.Nat.{pow-le-pow_right, div-eq_of_lt}
use native.Mathlib.Decide.{dec_lt}
use native.Mathlib.Omega.{arith}
use borrow.Author.Tests.{eqb-true, ltb-true, ltb-false, not-true, lt-ltb, le-ltb}
use lib.Dec.{eqb}
use lib.ListN.{length}
use Rattle.delivery.specs.Row.{room}
use Rattle.delivery.specs.Unit.{join_all}
use Rattle.filter.specs.Filter.{crosses}
use Rattle.queue.specs.declared.Frame.{Frame}
use Rattle.queue.specs.Queue.{size}
use Rattle.unit.specs.Ports.{mask, bit_at}
use Rattle.unit.specs.Model.{Model, row_at}
use Rattle.refusals.specs.Refusals.{frame_refusal, take_refusal, start_refusal, length_refusal}
use Rattle.bridge.specs.Calls.{frame_of, offered}
use Rattle.forwarding.specs.Forwarding.{sent_if, accepts, loses}
use Rattle.unit.specs.Own.{frames_sent}
use Rattle.claims.specs.Claims.{started}
use Rattle.bridge.specs.Calls.{Call, FrameIn, TakeOut, Message, Start, Quiet, ReadUnit, ReadCounts, refusal, frame_done, frame_passed, frame_answer, take_answer, start_answer, unit_answer, counts_answer}
use Rattle.forwarding.specs.Forwarding.{loses_own}
use Rattle.unit.proofs.Ports.{mask_none, mask_small, mask_bit}
use Rattle.demand_3.specs.Demand3.{words, answer, Answer, ToTake, ToUnit, goes, forwarded, forwards, announced, announces, number_in, accepted_ports, lost_ports, own_lost_ports, Rule3}

module _ (ports : ℕ) where
  -- ---- the number
  chosen : {A : Type 0} (number : A → ℕ) (n : ℕ) (done refused : A) → number done ≡ 0 → number refused ≡ n → number (cond (eqb n 0) done refused) ≡ n
  chosen number n done refused d r = go (eqb n 0) refl
    where
      go : (b : Bool) → eqb n 0 ≡ b → number (cond b done refused) ≡ n
      go true e = d ∙ sym (eqb-true n 0 e)
      go false e = r

  pub number_is : (m : Model) (k : Call) → number_in (answer ports m k) ≡ refusal ports (words ports) m.rest k
  unfolding answer refusal frame_answer take_answer start_answer unit_answer counts_answer frame_passed
  number_is m (FrameIn port id bytes) = chosen (λ (r : FrameTold). r.refusal) (frame_refusal ports (words ports) port id (length bytes)) _ _ refl refl
  number_is m (TakeOut port) = chosen (λ r. number_in (ToTake r)) (take_refusal ports (words ports) port) _ _ refl refl
  number_is m (Message port requester payload lentReply) = refl
  number_is m Start = chosen (λ (r : StartTold). r.refusal) (start_refusal ports (words ports) m.rest.own) _ _ refl refl
  number_is m Quiet = refl
  number_is m ReadUnit = chosen (λ r. number_in (ToUnit r)) (length_refusal ports (words ports)) _ _ refl refl
  number_is m (ReadCounts port) = chosen (λ (r : CountsTold). r.refusal) (take_refusal ports (words ports) port) _ _ refl refl

  -- ---- rule 3
  clash : true ≡ false → ⊥
  clash e = let z : ◌≡◌ {A = ℕ} 0 1 = cc in omega arith

  -- accepted, lost, and the unit's own lost at a row
  some_sent : (f : Frame) → ((f ∷ []) ≡ []) → ⊥
  some_sent f e = let z : ◌≡◌ {A = ℕ} 0 1 = cc in omega arith

  accepts_if : (p : Bool) (f : Frame) (row : List Frame) → (p && room size row ≡ true) ↔ ((cond p (f ∷ []) [] ≡ [] → ⊥) × (length row < size))
  accepts_if true f row = (λ e. (some_sent f, ltb-true (length row) size e), λ e. lt-ltb (length row) size e.1)
  accepts_if false f row = (λ e. absurd (clash (sym e)), λ e. absurd (e.0 refl))

  loses_if : (p : Bool) (f : Frame) (row : List Frame) → (p && not (room size row) ≡ true) ↔ ((cond p (f ∷ []) [] ≡ [] → ⊥) × (size ≤ length row))
  loses_if true f row =
      (λ e. (some_sent f, ltb-false (length row) size (not-true (room size row) e)), λ e. rw (le-ltb (length row) size e.1))
  loses_if false f row = (λ e. absurd (clash (sym e)), λ e. absurd (e.0 refl))

  own_loses_if : (s : Option Frame) (row : List Frame) → (loses_own s row ≡ true) ↔ ((frames_sent s ≡ [] → ⊥) × (size ≤ length row))
  own_loses_if None row = (λ e. absurd (clash (sym e)), λ e. absurd (e.0 refl))
  own_loses_if (Some f) row =
      (λ e. (some_sent f, ltb-false (length row) size (not-true (room size row) e)), λ e. rw (le-ltb (length row) size e.1))

  -- ---- bits
  -- a mask of the ports names ports alone
  pub no_port_lem : (x q : ℕ) → x < 2 ^ ports → ports ≤ q → bit_at x q ≡ false
  unfolding bit_at
  no_port_lem x q s h =
      let small : x < 2 ^ q = omega (arith, pow-le-pow_right {n = 2} (omega arith) {i = ports} {j = q} h) in
      rw (div-eq_of_lt small)

  -- so the test at every port says all
  exactly : {P : Type 0} (x q : ℕ) → x < 2 ^ ports → (q < ports → (bit_at x q ≡ true) ↔ P) → (bit_at x q ≡ true) ↔ ((q < ports) × P)
  exactly x q s inside =
      elim (dec_lt q ports) [
        | yes h ↦ (λ e. (h, (inside h).0 e), λ p. (inside h).1 p.1)
        | no n ↦ (λ e. absurd (clash (sym e ∙ no_port_lem x q s (omega arith))), λ p. absurd (n p.0))
      ]

  -- a mask by its tests
  mask_exactly : {P : Type 0} (test : ℕ → Bool) (q : ℕ) → ((test q ≡ true) ↔ P) → (bit_at (mask test ports) q ≡ true) ↔ ((q < ports) × P)
  mask_exactly test q t = exactly (mask test ports) q (mask_small test ports) (λ h. rw (mask_bit test ports q h) t)

  -- where nothing is sent no port is named
  silent_if : {P : Type 0} (q : ℕ) → (bit_at 0 q ≡ true) ↔ ((q < ports) × ((◌≡◌ {A = List Frame} [] [] → ⊥) × P))
  silent_if q =
      exactly 0 q (rw (mask_none ports) at (mask_small (λ q. false) ports)) (λ h. (λ e. absurd (clash (sym e ∙ rw (mask_none ports) at (mask_bit (λ q. false) ports q h))), λ e. absurd (e.0 refl)))

  module _ (m : Model) (q : ℕ) where
    frame_ports : (port id : ℕ) (bytes : List ℕ) (b : Bool) → eqb (frame_refusal ports (words ports) port id (length bytes)) 0 ≡ b
        → Rule3 ports m (FrameIn port id bytes) (answer ports m (FrameIn port id bytes)) q
    unfolding answer refusal forwards announces frame_answer frame_passed
    frame_ports port id bytes true e = record {
      accepted =
          rw e
          (mask_exactly (λ q. accepts (offered ports m.rest (port - 1) id q) (row_at m q)) q
          (accepts_if (crosses (offered ports m.rest (port - 1) id q).reason) (frame_of id bytes) (row_at m q)));
      lost =
          rw e
          (mask_exactly (λ q. loses (offered ports m.rest (port - 1) id q) (row_at m q)) q
          (loses_if (crosses (offered ports m.rest (port - 1) id q).reason) (frame_of id bytes) (row_at m q)));
      own_lost =
          rw e
          (mask_exactly
          (λ q. loses_own (frame_done m.rest port (frame_of id bytes)).sent
          (join_all size (row_at m q) (sent_if (offered ports m.rest (port - 1) id q) (frame_of id bytes))))
          q
          (own_loses_if (frame_done m.rest port (frame_of id bytes)).sent
          (join_all size (row_at m q) (sent_if (offered ports m.rest (port - 1) id q) (frame_of id bytes)))));
    }
    frame_ports port id bytes false e = record { accepted = rw e (silent_if q); lost = rw e (silent_if q); own_lost = rw e (silent_if q) }

    start_ports : (b : Bool) → eqb (start_refusal ports (words ports) m.rest.own) 0 ≡ b → Rule3 ports m Start (answer ports m Start) q
    unfolding answer refusal forwards announces start_answer
    start_ports true e = record {
      accepted = rw e (silent_if q);
      lost = rw e (silent_if q);
      own_lost =
          rw e (mask_exactly (λ q. loses_own (started m.rest).sent (row_at m q)) q (own_loses_if (started m.rest).sent (row_at m q)));
    }
    start_ports false e = record { accepted = rw e (silent_if q); lost = rw e (silent_if q); own_lost = rw e (silent_if q) }

    -- the other calls send nothing, refused or not, and name no port
    nothing_sent : (b : Bool) → ◌≡◌ {A = List Frame} (cond b [] []) []
    nothing_sent true = refl
    nothing_sent false = refl

    no_ports : (k : Call) (x : Answer) → accepted_ports x ≡ 0 → lost_ports x ≡ 0 → own_lost_ports x ≡ 0 → forwarded ports m.rest k q ≡ [] → announced ports m.rest k ≡ []
        → Rule3 ports m k x q
    unfolding forwards announces
    no_ports k x a l o f n = record {
      accepted = rw (a, f, nothing_sent (goes ports m.rest k)) (silent_if q);
      lost = rw (l, f, nothing_sent (goes ports m.rest k)) (silent_if q);
      own_lost = rw (o, n, nothing_sent (goes ports m.rest k)) (silent_if q);
    }

    pub rule_3 : (k : Call) → Rule3 ports m k (answer ports m k) q
    unfolding answer
    rule_3 (FrameIn port id bytes) = frame_ports port id bytes (eqb (frame_refusal ports (words ports) port id (length bytes)) 0) refl
    rule_3 (TakeOut port) = no_ports (TakeOut port) _ refl refl refl refl refl
    rule_3 (Message port requester payload lentReply) = no_ports (Message port requester payload lentReply) _ refl refl refl refl refl
    rule_3 Start = start_ports (eqb (start_refusal ports (words ports) m.rest.own) 0) refl
    rule_3 Quiet = no_ports Quiet _ refl refl refl refl refl
    rule_3 ReadUnit = no_ports ReadUnit _ refl refl refl refl refl
    rule_3 (ReadCounts port) = no_ports (ReadCounts port) _ refl refl refl refl refl
