-- A call on a model without what is searched leaves the same model without it and is answered the same but for the
-- count, as long as every pair is sound: there the search finds what is listed. Assumes nothing.
use mathlib.Core.Path.{◌≡◌, refl, sym, ap, fun_ext, ◌∙◌}
use mathlib.Core.Bool.{Bool, true, false, cond, ◌||◌, not, ◌&&◌}
use mathlib.Core.List.{List, [], ◌∷◌, map}
use Rattle.std.specs.Prelude.{Option, None}
use Prim.Native.Nat.{ℕ, ◌-◌}
use lib.Dec.{eqb, ltb}
use lib.ListN.{length, get_or}
use borrow.Author.Tests.{eq-eqb}
use Rattle.identifier.specs.Identifier.{pgn_of, sa_of}
use Rattle.entries.specs.Entries.{listed}
use Rattle.delivery.specs.Row.{room}
use Rattle.delivery.specs.Unit.{join_all}
use Rattle.sorted_list.specs.SortedList.{halved}
use Rattle.name_entries.specs.NameEntries.{matched_by}
use Rattle.filter.specs.declared.Reason.{Reason}
use Rattle.filter.specs.declared.Asked.{Asked}
use Rattle.filter.specs.Filter.{Filter, clear, is_permanent, reason_of, crosses, reason_number, asked}
use Rattle.queue.specs.declared.Frame.{Frame}
use Rattle.queue.specs.Queue.{size, Queued, queue_next}
use Rattle.addresses.specs.Table.{name_at}
use Rattle.unit.specs.Ports.{each, in_turn, mask, digits}
use Rattle.unit.specs.Model.{Rest, Model, row_at, pair_at, with_pairs, record_length}
use Rattle.unit.specs.Own.{is_own, consumes}
use Rattle.forwarding.specs.Forwarding.{verdict, loses_own, lost_from, lost_own}
use Rattle.claims.specs.Claims.{Acted, acted, is_claim, is_request_to_unit, contested, claim_acted, frame_acted, held_under}
use Rattle.claims.specs.Claims.{started}
use Rattle.message_answers.specs.Messages.{Replied, message_answer}
use Rattle.refusals.specs.Refusals.{frame_refusal}
use Rattle.bridge.specs.Calls.{Call, FrameIn, TakeOut, Message, Start, Quiet, ReadUnit, ReadCounts, frame_of, offered}
use Rattle.bridge.specs.Calls.{messaged, refusal, frame_done, rest_after}
use Rattle.bridge.specs.Calls.{asks, sends, losses_after, performed, next, frame_passed, frame_refused, frame_answer}
use Rattle.bridge.specs.Calls.{take_answer, start_answer, unit_answer, counts_answer}
use Rattle.demand_3.specs.Demand3.{ToFrame, ToMessage, answer}
use Rattle.old_layout.specs.OldLayout.{old_length, as_lent, old_asked, old_verdict, old_offered, old_refusal}
use Rattle.old_layout.specs.OldLayout.{old_rest_after, old_sends, old_losses_after, old_performed, old_next}
use Rattle.old_layout.specs.OldLayout.{old_frame_passed, old_frame_answer, old_answer}
use Rattle.old_layout.specs.Same.{countless, uncounted}
use Rattle.old_layout.proofs.Commands.{forget, forgotten_rest, forgotten, forget_at, messaged_same, left_same}

-- ---- claims, requests and Start read no pair and change none
abbrev forget_acted : Acted → Acted
forget_acted a = acted (forgotten_rest a.rest) a.event a.sent

either : (b : Bool) (x y x' y' : Acted) → x' ≡ forget_acted x → y' ≡ forget_acted y
    → cond b x' y' ≡ forget_acted (cond b x y)
either true x y x' y' p q = p
either false x y x' y' p q = q

module _ (rest : Rest) where
  claim_same : (port : ℕ) (f : Frame) → claim_acted (forgotten_rest rest) port f ≡ forget_acted (claim_acted rest port f)
  unfolding claim_acted contested
  claim_same port f =
      either (eqb f.bytes rest.own.name) _ _ _ _ refl
      (either (eqb (sa_of f.id) 254) _ _ _ _ refl
      (either (is_own rest.own (sa_of f.id)) _ _ _ _ (either (ltb rest.own.name f.bytes) _ _ _ _ refl refl) refl))

  frame_same : (port : ℕ) (f : Frame) → frame_done (forgotten_rest rest) port f ≡ forget_acted (frame_done rest port f)
  unfolding frame_acted
  frame_same port f =
      either (is_claim f) _ _ _ _ (claim_same port f)
      (either (is_request_to_unit f (consumes rest.own f.id)) _ _ _ _ refl refl)

  started_same : started (forgotten_rest rest) ≡ forget_acted (started rest)
  unfolding started
  started_same = either (held_under rest.own.name (get_or rest.table rest.own.preferred None)) _ _ _ _ refl refl

-- ---- asking
-- the search finds what is listed, in every pair
abbrev pub Finds : List Filter → Type 0
Finds pairs = (i pgn : ℕ) → (halved pgn (get_or pairs i clear).sorted).found ≡ listed pgn (get_or pairs i clear).entries

same_reason : (b : Bool) (x y x' y' : Asked) → x.reason ≡ x'.reason → y.reason ≡ y'.reason
    → (cond b x y).reason ≡ (cond b x' y').reason
same_reason true x y x' y' p q = p
same_reason false x y x' y' p q = q

asked_same : (f : Filter) (pgn : ℕ) (sender : Option ℕ) → (halved pgn f.sorted).found ≡ listed pgn f.entries
    → (old_asked (forget f) pgn sender).reason ≡ (asked f pgn sender).reason
unfolding old_asked asked
asked_same f pgn sender h =
    same_reason (is_permanent pgn) _ _ _ _ refl
    (ap (λ here. reason_of f.mode (here || matched_by pgn sender f.named)) (sym h))

-- a length that is right, and one that is not
pub as_long : (ports : ℕ) → as_lent ports (old_length ports) ≡ record_length ports
unfolding as_lent
as_long ports = rw (eq-eqb (old_length ports) (old_length ports) refl)

module _ (ports : ℕ) (rest : Rest) where
  pub refusal_same : (lent : ℕ) (k : Call) → refusal ports lent (forgotten_rest rest) k ≡ refusal ports lent rest k
  unfolding refusal
  refusal_same lent (FrameIn port id bytes) = refl
  refusal_same lent (TakeOut port) = refl
  refusal_same lent (Message port requester payload lentReply) =
      ap (λ (r : Replied). r.number) (messaged_same ports rest lent lentReply port requester payload)
  refusal_same lent Start = refl
  refusal_same lent Quiet = refl
  refusal_same lent ReadUnit = refl
  refusal_same lent (ReadCounts port) = refl

  after_same : (k : Call)
      → old_rest_after ports (old_length ports) (forgotten_rest rest) k
      ≡ forgotten_rest (rest_after ports (record_length ports) rest k)
  unfolding old_rest_after rest_after
  after_same (FrameIn port id bytes) = ap (λ (a : Acted). a.rest) (frame_same rest port (frame_of id bytes))
  after_same (TakeOut port) = refl
  after_same (Message port requester payload lentReply) =
      ap (λ (pairs : List Filter). with_pairs rest pairs)
      (left_same ports rest (old_length ports) lentReply port requester payload
      ∙ ap (λ (lent : ℕ). map forget (messaged ports lent lentReply rest port requester payload).pairs) (as_long ports))
  after_same Start = ap (λ (a : Acted). a.rest) (started_same rest)
  after_same Quiet = refl
  after_same ReadUnit = refl
  after_same (ReadCounts port) = refl

module _ (ports : ℕ) (m : Model) (finds : Finds m.rest.pairs) where
  offered_same : (p id q : ℕ)
      → (old_offered ports (forgotten_rest m.rest) p id q).reason ≡ (offered ports m.rest p id q).reason
  unfolding old_offered offered old_verdict verdict
  offered_same p id q =
      same_reason (consumes m.rest.own id) _ _ _ _ refl
      (same_reason (eqb p q) _ _ _ _ refl
      (rw (forget_at m.rest.pairs (pair_at ports p q))
      (asked_same (get_or m.rest.pairs (pair_at ports p q) clear) (pgn_of id) (name_at m.rest.table (sa_of id))
      (finds (pair_at ports p q) (pgn_of id)))))

  reasons_same : (p id : ℕ) → ◌≡◌ {A = ℕ → Reason}
      (λ q. (old_offered ports (forgotten_rest m.rest) p id q).reason) (λ q. (offered ports m.rest p id q).reason)
  reasons_same p id = fun_ext (offered_same p id)

  sends_same : (k : Call) (q : ℕ) → old_sends ports (forgotten_rest m.rest) k q ≡ sends ports m.rest k q
  unfolding old_sends sends
  sends_same (FrameIn port id bytes) q = rw (offered_same (port - 1) id q, frame_same m.rest port (frame_of id bytes))
  sends_same (TakeOut port) q = refl
  sends_same (Message port requester payload lentReply) q = refl
  sends_same Start q = rw (started_same m.rest)
  sends_same Quiet q = refl
  sends_same ReadUnit q = refl
  sends_same (ReadCounts port) q = refl

  losses_same : (k : Call)
      → old_losses_after ports (old_length ports) (forgotten m) k ≡ losses_after ports (record_length ports) m k
  unfolding old_losses_after losses_after
  losses_same (FrameIn port id bytes) =
      let f = frame_of id bytes in
      rw (frame_same m.rest port f)
      (ap
      (λ (g : ℕ → Reason).
      in_turn
      (λ q. loses_own (frame_done m.rest port f).sent (join_all size (row_at m q) (cond (crosses (g q)) (f ∷ []) [])))
      (λ q. lost_own ports)
      ports
      (in_turn (λ q. crosses (g q) && not (room size (row_at m q))) (lost_from ports (port - 1)) ports m.seen.losses))
      (reasons_same (port - 1) id))
  losses_same (TakeOut port) = refl
  losses_same (Message port requester payload lentReply) =
      ap (λ (lent : ℕ). (messaged ports lent lentReply (forgotten_rest m.rest) port requester payload).losses m.seen.losses)
      (as_long ports)
      ∙ ap (λ (r : Replied). r.losses m.seen.losses)
      (messaged_same ports m.rest (record_length ports) lentReply port requester payload)
  losses_same Start = rw (started_same m.rest)
  losses_same Quiet = refl
  losses_same ReadUnit = refl
  losses_same (ReadCounts port) = refl

  queues_same : (k : Call) → ◌≡◌ {A = List Queued}
      (each (λ q x. queue_next (asks k) q x (old_sends ports (forgotten_rest m.rest) k q)) ports m.queues)
      (each (λ q x. queue_next (asks k) q x (sends ports m.rest k q)) ports m.queues)
  queues_same k =
      ap (λ (g : ℕ → List Frame). each (λ q x. queue_next (asks k) q x (g q)) ports m.queues) (fun_ext (sends_same k))

  performed_same : (k : Call)
      → old_performed ports (old_length ports) (forgotten m) k ≡ forgotten (performed ports (record_length ports) m k)
  unfolding old_performed performed
  performed_same k = λ i. record {
    rest = after_same ports m.rest k i;
    queues = queues_same k i;
    seen = record { losses = losses_same k i };
  }

  pub next_same : (k : Call)
      → old_next ports (old_length ports) (forgotten m) k ≡ forgotten (next ports (record_length ports) m k)
  unfolding old_next next old_refusal
  next_same k =
      rw (as_long ports, refusal_same ports m.rest (record_length ports) k)
      (go (eqb (refusal ports (record_length ports) m.rest k) 0))
    where
      go : (b : Bool)
          → cond b (old_performed ports (old_length ports) (forgotten m) k) (forgotten m)
          ≡ forgotten (cond b (performed ports (record_length ports) m k) m)
      go true = performed_same k
      go false = refl

  passed_same : (port : ℕ) (f : Frame)
      → countless (old_frame_passed ports (forgotten m) port f) ≡ countless (frame_passed ports m port f)
  unfolding old_frame_passed frame_passed
  passed_same port f =
      rw (frame_same m.rest port f)
      (ap
      (λ (g : ℕ → Reason). record {
        refusal = 0;
        consumed = consumes m.rest.own f.id;
        accepted = mask (λ q. crosses (g q) && room size (row_at m q)) ports;
        lost = mask (λ q. crosses (g q) && not (room size (row_at m q))) ports;
        event = (frame_done m.rest port f).event;
        unsent = mask
            (λ q. loses_own (frame_done m.rest port f).sent (join_all size (row_at m q) (cond (crosses (g q)) (f ∷ []) []))) ports;
        compared = 0;
        reasons = digits (λ q. reason_number (g q)) ports;
      })
      (reasons_same (port - 1) f.id))

  pub answer_same : (k : Call)
      → uncounted (old_answer ports (old_length ports) (forgotten m) k) ≡ uncounted (answer ports m k)
  unfolding old_answer answer old_frame_answer frame_answer take_answer start_answer unit_answer counts_answer
  answer_same (FrameIn port id bytes) =
      rw (as_long ports) (go (eqb (frame_refusal ports (record_length ports) port id (length bytes)) 0))
    where
      n : ℕ
      n = frame_refusal ports (record_length ports) port id (length bytes)

      go : (b : Bool)
          → ToFrame (countless (cond b (old_frame_passed ports (forgotten m) port (frame_of id bytes)) (frame_refused n)))
          ≡ ToFrame (countless (cond b (frame_passed ports m port (frame_of id bytes)) (frame_refused n)))
      go true = ap ToFrame (passed_same port (frame_of id bytes))
      go false = refl
  answer_same (TakeOut port) = rw (as_long ports)
  answer_same (Message port requester payload lentReply) =
      rw (as_long ports)
      (ap (λ (r : Replied). ToMessage (message_answer r m.seen) (r.written m.seen))
      (messaged_same ports m.rest (record_length ports) lentReply port requester payload))
  answer_same Start = rw (as_long ports, started_same m.rest)
  answer_same Quiet = rw (as_long ports)
  answer_same ReadUnit = rw (as_long ports)
  answer_same (ReadCounts port) = rw (as_long ports)
