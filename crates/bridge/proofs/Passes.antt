-- A frame and Start as whole calls: the forwarding, what is acted on and the unit's own frame, put together. Assumes nothing.
use mathlib.Core.Path.{◌≡◌, refl, sym, ap, ◌∙◌}
use mathlib.Core.Bool.{Bool, true, false, true≢false}
use mathlib.Core.List.{List, ◌++◌}
use Prim.Native.Nat.{ℕ, ◌-◌, ◌<◌}
use native.Mathlib.Omega.{arith}
use borrow.Author.Tests.{eq-eqb, ne_eqb}
use lib.ListN.{length}
use Rattle.identifier.specs.Identifier.{pgn_of, sa_of}
use Rattle.delivery.specs.Unit.{join_all}
use Rattle.queue.specs.declared.Frame.{Frame}
use Rattle.queue.specs.Queue.{size, Queued, sent_all, idle}
use Rattle.queue.proofs.Rows.{row_sent, sent_append}
use Rattle.bridge.specs.declared.Response.{Response}
use Rattle.unit.specs.declared.Unit.{Unit}
use Rattle.forwarding.specs.declared.Share.{Share}
use Rattle.claims.specs.declared.Acted.{Acted as Done}
use Rattle.unit.specs.Ports.{each, in_turn, mask}
use Rattle.unit.specs.Model.{Model, model_of, record_length, queue_on, row_at}
use Rattle.unit.specs.Own.{start_checks, consumes, frames_sent}
use Rattle.refusals.specs.Refusals.{frame_refusal, start_refusal}
use Rattle.checks.specs.Checks.{first}
use Rattle.bridge.specs.Told.{FrameTold, StartTold}
use Rattle.bridge.specs.Calls.{frame_of, offered, refusal, rest_after, losses_after, asks, sends, performed, frame_refused, frame_passed, frame_answer, start_refused, start_answer, Framing, Starting}
use Rattle.forwarding.specs.Forwarding.{verdict, sent_if, loses, loses_own, lost_from, lost_own}
use Rattle.claims.specs.Claims.{Acted, frame_acted, started}
use Rattle.forwarding.specs.Steps.{changed_to, forwarded_to, shares_to, Forwarding, announced_to, unsent_to, Announcing}
use Rattle.claims.specs.Steps.{Acting}
use Rattle.bridge.specs.Steps.{Sharing, Responding, Passing}
use Rattle.unit.proofs.Ports.{each_at, each_same, each_twice, turn_same, turn_none, mask_same, mask_none, total_none, digits_none}
use Rattle.record.proofs.Regions.{queues_long}
use Rattle.bridge.proofs.Answers.{call_refused, call_done}

-- ---- acted on, then announced
pub responded : {ports : ℕ} {words mid after : List ℕ} {a : Acted} {d : Done} {n : ℕ} → Acting ports words mid a d → Announcing ports mid after d.sent n
    → Responding ports words after a (record { event = d.event; unsent = n })
unfolding announced_to unsent_to
responded A B = record {
  event = A.event;
  unsent = B.answer ∙ rw (A.state, A.sent);
  state = B.state ∙ rw (A.state, A.sent);
}

module _ {ports : ℕ} {words after : List ℕ} (port : ℕ) (f : Frame) (r : Response) where
  -- ---- a consumed frame
  pub consumed : consumes (model_of ports words).rest.own f.id ≡ true → Responding ports words after (frame_acted (model_of ports words).rest port true f) r
      → Passing ports words after port f (record { refusal = 0; consumed = true; accepted = 0; lost = 0; event = r.event; unsent = r.unsent; compared = 0; reasons = 0 })
  unfolding frame_passed offered unsent_to announced_to
  consumed h R = record {
    answer = rw (h, mask_none ports, total_none ports, digits_none ports, R.event, R.unsent);
    state = rw (h, turn_none (lost_from ports (port - 1)) ports (model_of ports words).seen.losses) R.state;
  }

  -- ---- a frame that is carried on
  module _ {mid : List ℕ} {s : Share} (h : consumes (model_of ports words).rest.own f.id ≡ false) (F : Forwarding ports words mid (port - 1) (verdict ports (model_of ports words).rest (port - 1) (pgn_of f.id) (sa_of f.id)) f s) (R : Responding ports mid after (frame_acted (model_of ports mid).rest port false f) r) where
    -- what forwarding does at port q
    abbrev change : ℕ → Queued → Queued
    change q x = sent_all x (sent_if (verdict ports (model_of ports words).rest (port - 1) (pgn_of f.id) (sa_of f.id) q) f)

    -- and whether the frame is lost there
    abbrev lost_there : ℕ → Bool
    lost_there q = loses (verdict ports (model_of ports words).rest (port - 1) (pgn_of f.id) (sa_of f.id) q) (row_at (model_of ports words) q)

    forwarded : model_of ports mid ≡ changed_to ports (model_of ports words) change lost_there (lost_from ports (port - 1))
    unfolding forwarded_to
    forwarded = F.state

    rest_still : (model_of ports mid).rest ≡ (model_of ports words).rest
    rest_still = rw forwarded

    -- what is acted on, read on the model as the frame found it
    abbrev done : Acted
    done = frame_acted (model_of ports words).rest port false f

    event_is : r.event ≡ done.event
    event_is = rw rest_still at R.event

    abbrev joined_to : ℕ → List Frame
    joined_to q = join_all size (row_at (model_of ports words) q) (sent_if (verdict ports (model_of ports words).rest (port - 1) (pgn_of f.id) (sa_of f.id) q) f)

    row_then : (q : ℕ) → q < ports → row_at (model_of ports mid) q ≡ joined_to q
    row_then q l =
        rw forwarded (ap (λ (x : Queued). x.row) (each_at change ports (model_of ports words).queues q idle l (omega (arith, queues_long ports words))))
        ∙ row_sent (queue_on (model_of ports words) q) (sent_if (verdict ports (model_of ports words).rest (port - 1) (pgn_of f.id) (sa_of f.id) q) f)

    unsent_is : r.unsent ≡ mask (λ q. loses_own done.sent (joined_to q)) ports
    unfolding unsent_to
    unsent_is =
        (rw rest_still at R.unsent)
        ∙ mask_same (λ q. loses_own done.sent (row_at (model_of ports mid) q)) (λ q. loses_own done.sent (joined_to q)) ports
        (λ q l. ap (loses_own done.sent) (row_then q l))

    queues_are : each (λ q x. sent_all x (frames_sent done.sent)) ports (each change ports (model_of ports words).queues)
        ≡ each (λ q x. sent_all x (sent_if (verdict ports (model_of ports words).rest (port - 1) (pgn_of f.id) (sa_of f.id) q) f ++ frames_sent done.sent)) ports (model_of ports words).queues
    queues_are =
        each_twice change (λ q x. sent_all x (frames_sent done.sent)) ports (model_of ports words).queues
        ∙ each_same (λ q x. sent_all (change q x) (frames_sent done.sent))
        (λ q x. sent_all x (sent_if (verdict ports (model_of ports words).rest (port - 1) (pgn_of f.id) (sa_of f.id) q) f ++ frames_sent done.sent))
        (λ q x. sym (sent_append x (sent_if (verdict ports (model_of ports words).rest (port - 1) (pgn_of f.id) (sa_of f.id) q) f) (frames_sent done.sent)))
        ports (model_of ports words).queues

    losses_are : in_turn (λ q. loses_own done.sent (row_at (model_of ports mid) q)) (λ q. lost_own ports) ports (model_of ports mid).seen.losses
        ≡ in_turn (λ q. loses_own done.sent (joined_to q)) (λ q. lost_own ports) ports (in_turn lost_there (lost_from ports (port - 1)) ports (model_of ports words).seen.losses)
    losses_are =
        turn_same (λ q. loses_own done.sent (row_at (model_of ports mid) q)) (λ q. loses_own done.sent (joined_to q)) (λ q. lost_own ports) ports (model_of ports mid).seen.losses
        (λ q l. ap (loses_own done.sent) (row_then q l))
        ∙ ap (λ (m : Model). in_turn (λ q. loses_own done.sent (joined_to q)) (λ q. lost_own ports) ports m.seen.losses) forwarded

    -- the record's parts after both
    abbrev put : List Queued → List ℕ → Model
    put queues losses = record { rest = done.rest; queues = queues; seen = record { losses = losses } }

    pub carried : Passing ports words after port f (record { refusal = 0; consumed = false; accepted = s.accepted; lost = s.lost; event = r.event; unsent = r.unsent; compared = s.compared; reasons = s.reasons })
    unfolding frame_passed offered shares_to announced_to
    carried = record {
      answer = rw (h, event_is, unsent_is, F.answer);
      state =
          rw h
          ((rw rest_still at R.state)
          ∙ ap (put (each (λ q x. sent_all x (frames_sent done.sent)) ports (model_of ports mid).queues)) losses_are
          ∙ ap (λ queues. put queues (in_turn (λ q. loses_own done.sent (joined_to q)) (λ q. lost_own ports) ports (in_turn lost_there (lost_from ports (port - 1)) ports (model_of ports words).seen.losses))) (rw forwarded queues_are));
    }

-- ---- a frame that is not refused: for the unit or for others, as `consumed` says
pub kept_still : {ports : ℕ} {words : List ℕ} {port : ℕ} {b : Bool} {f : Frame} → b ≡ true → Sharing ports words words port b f (record { accepted = 0; lost = 0; reasons = 0; compared = 0 })
kept_still h = record { kept = λ _. (refl, refl); sent = λ g. absurd (true≢false (sym h ∙ g)) }

pub shared : {ports : ℕ} {words mid : List ℕ} {port pgn : ℕ} {b : Bool} {f : Frame} {s : Share} → b ≡ false → pgn ≡ pgn_of f.id → Forwarding ports words mid (port - 1) (verdict ports (model_of ports words).rest (port - 1) pgn (sa_of f.id)) f s → Sharing ports words mid port b f s
shared h g F = record { kept = λ k. absurd (true≢false (sym k ∙ h)); sent = λ _. rw g at F }

pub passed : {ports : ℕ} {words mid after : List ℕ} (port : ℕ) (f : Frame) (b : Bool) (s : Share) (r : Response) → b ≡ consumes (model_of ports words).rest.own f.id → Sharing ports words mid port b f s
    → Responding ports mid after (frame_acted (model_of ports mid).rest port b f) r
    → Passing ports words after port f (record { refusal = 0; consumed = b; accepted = s.accepted; lost = s.lost; event = r.event; unsent = r.unsent; compared = s.compared; reasons = s.reasons })
passed port f true s r h S R =
    let k = S.kept refl in
    rw k.1 (consumed port f r (sym h) (rw k.0 at R))
passed port f false s r h S R = carried port f r (sym h) (S.sent refl) R

-- ---- the call of a frame
module _ {ports : ℕ} {words : List ℕ} (port id : ℕ) (bytes : List ℕ) {n : ℕ} (e : n ≡ frame_refusal ports (length words) port id (length bytes)) where
  pub frame_refused_lem : {r : FrameTold} → (n ≡ 0 → ⊥) → r ≡ frame_refused n → Framing ports words words port id bytes r
  unfolding frame_answer refusal
  frame_refused_lem h s = record {
    call = call_refused (λ z. h (e ∙ z));
    answer = rw (← e, ne_eqb n 0 h) s;
  }

  pub frame_passed_lem : {after : List ℕ} {f : Frame} {r : FrameTold} → n ≡ 0 → length after ≡ length words → f ≡ frame_of id bytes → Passing ports words after port f r → Framing ports words after port id bytes r
  unfolding frame_answer refusal performed rest_after losses_after asks sends
  frame_passed_lem z long g P = record {
    call = call_done (sym e ∙ z) long (rw g at P.state);
    answer = rw (← e, eq-eqb n 0 z) (rw g at P.answer);
  }

-- ---- the call of Start
module _ (ports : ℕ) (words : List ℕ) where
  pub start_short : {r : StartTold} → (length words ≡ record_length ports → ⊥) → r ≡ start_refused 2 → Starting ports words words r
  unfolding start_answer start_refusal refusal
  start_short h s = record {
    call = call_refused (λ z. two (rw (ne_eqb (length words) (record_length ports) h) at z));
    answer = rw (ne_eqb (length words) (record_length ports) h) s;
  }
    where
      two : ◌≡◌ {A = ℕ} 2 0 → ⊥
      two z = omega arith

  module _ (full : length words ≡ record_length ports) (n : ℕ) (e : n ≡ first (start_checks (model_of ports words).rest.own)) where
    number : start_refusal ports (length words) (model_of ports words).rest.own ≡ n
    unfolding start_refusal
    number = rw (eq-eqb (length words) (record_length ports) full) (sym e)

    pub start_refused_lem : {r : StartTold} → (n ≡ 0 → ⊥) → r ≡ start_refused n → Starting ports words words r
    unfolding start_answer refusal
    start_refused_lem h s = record {
      call = call_refused (λ z. h (sym number ∙ z));
      answer = rw (number, ne_eqb n 0 h) s;
    }

    pub start_done : {mid after : List ℕ} {d : Done} {u : ℕ} {own : Unit} → n ≡ 0 → length after ≡ length words → Acting ports words mid (started (model_of ports words).rest) d
        → Announcing ports mid after d.sent u → own ≡ (model_of ports after).rest.own → Starting ports words after (record { refusal = 0; unsent = u; claim = own.claim })
    unfolding start_answer refusal performed rest_after losses_after asks sends announced_to unsent_to
    start_done z long A B o = record {
      call = call_done (number ∙ z) long (responded A B).state;
      answer = rw (number, eq-eqb n 0 z, (responded A B).unsent, o, (responded A B).state);
    }
