-- Demand 2 from the contracts of `frame` and `message` and the laws of the model. Assumes nothing.
use Rattle.bridge.specs.Told.{FrameTold}
use mathlib.Core.Path.{◌≡◌, refl, sym, ap, ◌∙◌}
use mathlib.Core.Logic.{inl, inr}
use mathlib.Core.Bool.{Bool, true, false}
use mathlib.Core.List.{List, [], ◌∷◌, ◌++◌}
use Prim.Native.Nat.{ℕ, ◌+◌, ◌-◌, ◌*◌, ◌^◌, ◌<◌, ◌≤◌}
use native.Mathlib.Nat.{zero-div}
use native.Mathlib.Omega.{arith}
use borrow.Author.Tests.{eqb-true, eqb-false}
use lib.ListN.{length, take, drop, get_or}
use lib.Seq.{take_at}
use lib.Dec.{eqb}
use Rattle.filter.specs.Filter.{Filter, clear}
use Rattle.delivery.specs.Unit.{join_all}
use Rattle.queue.specs.Queue.{size, Queued, queue_next, idle}
use Rattle.queue.proofs.Rows.{row_sent}
use Rattle.network_message.specs.Decoding.{function_of, pair_of, from_of, to_of}
use Rattle.replies.specs.Replies.{list_reply}
use Rattle.unit.specs.Ports.{bit_at}
use Rattle.unit.specs.Count.{ports_of}
use Rattle.unit.specs.Model.{queue_on, Model, Seen, row_at, pair_at, model_of}
use Rattle.bridge.specs.Calls.{frame_of}
use Rattle.forwarding.specs.Forwarding.{silent}
use Rattle.refusals.specs.Refusals.{frame_refusal, message_refusal}
use Rattle.message_answers.specs.Messages.{Replied, MessageTold}
use Rattle.bridge.specs.Calls.{messaged}
use Rattle.unit.specs.Own.{frames_sent}
use Rattle.bridge.specs.Calls.{FrameIn, Message, refusal, rest_after, asks, sends, performed, next, frame_done, frame_passed, frame_refused, frame_answer, Framing, Messaging}
use Rattle.message_answers.specs.Messages.{message_answer}
use Rattle.refusals.proofs.Checks.{frame_goes, message_goes}
use Rattle.unit.proofs.Ports.{each_at, each_none}
use Rattle.unit.proofs.Count.{ports_bounds}
use Rattle.record.proofs.Regions.{queues_long}
use Rattle.list_commands.proofs.PairLoop.{pairs_long}
use Rattle.bridge.proofs.Laws.{not_offered_back, not_sent_back, not_accepted_back, lost_at_lem}
use Rattle.list_commands.specs.Commands.{IsPair}
use Rattle.demand_2.specs.Demand2.{unit_in, rest_of, pair_on, counter_on, general_counter, names_pair, NotBack, Unnamed, OnlyNamed, Emptied, SameTo, list_of, plain, MayCreate, Demand2}
use Rattle.made.proofs.Made.{framing, messaging}
use Rattle.demand_2.proofs.Permanent.{crossing}
use Rattle.demand_2.proofs.Reasons.{reasons}
use Rattle.demand_2.proofs.Counts.{counts}
use Rattle.demand_2.proofs.Pairs.{unit_in_lem, pair_in_lem}
use Rattle.demand_2.proofs.Counters.{counter_unnamed, general_unnamed}
use Rattle.demand_2.proofs.Commands.{untouched, messaged_other, messaged_emptied}
use Rattle.demand_2.proofs.Privacy.{messaged_told}
use Rattle.demand_2.proofs.RoundTrip.{request_reported, tool_port, sent_back}
use Rattle.demand_2.proofs.Probes.{in_order}
use Rattle.demand_2.proofs.Kept.{Standing, stands}

-- ---- no frame goes back
no_bit : (q : ℕ) → bit_at 0 q ≡ false
unfolding bit_at
no_bit q = rw (zero-div (2 ^ q))

module _ {words bytes after : List ℕ} {port id : ℕ} {r : FrameTold} (F : Framing (ports_of words) words after port id bytes r) where
  frame_back : NotBack words port id bytes r after
  unfolding refusal next frame_answer performed asks sends
  frame_back = go (eqb (frame_refusal (ports_of words) (length words) port id (length bytes)) 0) refl
    where
      m : Model
      m = unit_in words

      done : frame_refusal (ports_of words) (length words) port id (length bytes) ≡ 0 → r ≡ frame_passed (ports_of words) m port (frame_of id bytes) → model_of (ports_of words) after ≡ performed (ports_of words) (length words) m (FrameIn port id bytes) → NotBack words port id bytes r after
      done z a s =
          let g = frame_goes (ports_of words) (length words) port id (length bytes) z in
          let q : port - 1 < ports_of words = omega (arith, g.1, g.2) in
          record {
            row = inr (ap (λ w. row_at w (port - 1)) (unit_in_lem after F.call.count ∙ s) ∙ row_then q);
            accepted = rw a (not_accepted_back (ports_of words) m port (frame_of id bytes) q);
            lost = rw a (lost_at_lem (ports_of words) m port (frame_of id bytes) (port - 1) q ∙ rw (not_offered_back (ports_of words) m.rest (port - 1) id));
          }
        where
          row_then : port - 1 < ports_of words → row_at (performed (ports_of words) (length words) m (FrameIn port id bytes)) (port - 1) ≡ join_all size (row_at m (port - 1)) (frames_sent (frame_done m.rest port (frame_of id bytes)).sent)
          row_then q =
              ap (λ (x : Queued). x.row) (each_at (λ p x. queue_next (asks (FrameIn port id bytes)) p x (sends (ports_of words) m.rest (FrameIn port id bytes) p)) (ports_of words) m.queues (port - 1) idle q (omega (arith, queues_long (ports_of words) words)))
              ∙ row_sent (queue_on m (port - 1)) (sends (ports_of words) m.rest (FrameIn port id bytes) (port - 1))
              ∙ rw (not_sent_back (ports_of words) m.rest port (frame_of id bytes))

      go : (t : Bool) → eqb (frame_refusal (ports_of words) (length words) port id (length bytes)) 0 ≡ t → NotBack words port id bytes r after
      go true e = done (eqb-true _ 0 e) (rw e at F.answer) (rw e at F.call.state)
      go false e =
          let a : r ≡ frame_refused (frame_refusal (ports_of words) (length words) port id (length bytes)) = rw e at F.answer in
          record {
            row = inl (ap (λ w. row_at w (port - 1)) (unit_in_lem after F.call.count ∙ (rw e at F.call.state)));
            accepted = rw a (no_bit (port - 1));
            lost = rw a (no_bit (port - 1));
          }

-- ---- what a message changes
module _ {words payload lent after back : List ℕ} {port requester : ℕ} {r : MessageTold} (M : Messaging (ports_of words) words after port requester payload lent back r) where
  abbrev outcome : Replied
  outcome = messaged (ports_of words) (length words) (length lent) (rest_of words) port requester payload

  -- a message that 1 to 8 refuse changes no word at all
  message_words_lem : (n : ℕ) → Unnamed (ports_of words) payload n → get_or after n 0 ≡ get_or words n 0
  unfolding refusal messaged
  message_words_lem n H = go (eqb number 0) refl
    where
      number : ℕ
      number = message_refusal (ports_of words) (length words) (length lent) (rest_of words) port requester (length payload)

      silent : eqb number 0 ≡ false → outcome.number ≡ number
      silent z = rw z

      go : (t : Bool) → eqb number 0 ≡ t → get_or after n 0 ≡ get_or words n 0
      go true z = M.others n (untouched (ports_of words) payload n H port (ports_bounds words).1 (message_goes (ports_of words) (length words) (length lent) (rest_of words) port requester (length payload) (eqb-true number 0 z)).2)
      go false z = ap (λ (w : List ℕ). get_or w n 0) (M.call.refused (λ e. eqb-false number 0 z (sym (silent z) ∙ e)))

  message_named : OnlyNamed words port payload after
  unfolding refusal next performed rest_after asks sends
  message_named = go (eqb outcome.number 0) refl
    where
      still : model_of (ports_of words) after ≡ unit_in words → OnlyNamed words port payload after
      still s = record {
        pairs = λ a b P e. pair_in_lem after M.call.count a b ∙ ap (λ (w : Model). get_or w.rest.pairs (pair_at (ports_of words) (a - 1) (b - 1)) clear) s;
        losses = λ a b P e. message_words_lem (counter_on (ports_of words) a b) (counter_unnamed (ports_of words) payload a b P e);
        general = λ e. message_words_lem (general_counter (ports_of words)) (general_unnamed (ports_of words) payload e);
        others = message_words_lem;
        long = M.call.long;
        own = ap (λ (w : Model). w.rest.own) (unit_in_lem after M.call.count ∙ s);
        table = ap (λ (w : Model). w.rest.table) (unit_in_lem after M.call.count ∙ s);
        queues = ap (λ (w : Model). w.queues) (unit_in_lem after M.call.count ∙ s);
      }

      changed : model_of (ports_of words) after ≡ performed (ports_of words) (length words) (unit_in words) (Message port requester payload (length lent)) → OnlyNamed words port payload after
      changed s = record {
        pairs = λ a b P e.
            pair_in_lem after M.call.count a b
            ∙ ap (λ (w : Model). get_or w.rest.pairs (pair_at (ports_of words) (a - 1) (b - 1)) clear) s
            ∙ messaged_other (ports_of words) (rest_of words) (pairs_long (ports_of words) words) a b P (ports_bounds words).1 (length words) (length lent) port requester payload e;
        losses = λ a b P e. message_words_lem (counter_on (ports_of words) a b) (counter_unnamed (ports_of words) payload a b P e);
        general = λ e. message_words_lem (general_counter (ports_of words)) (general_unnamed (ports_of words) payload e);
        others = message_words_lem;
        long = M.call.long;
        own = ap (λ (w : Model). w.rest.own) (unit_in_lem after M.call.count ∙ s);
        table = ap (λ (w : Model). w.rest.table) (unit_in_lem after M.call.count ∙ s);
        queues = ap (λ (w : Model). w.queues) (unit_in_lem after M.call.count ∙ s) ∙ each_none (ports_of words) (unit_in words).queues;
      }

      go : (t : Bool) → eqb outcome.number 0 ≡ t → OnlyNamed words port payload after
      go true e = changed (rw e at M.call.state)
      go false e = still (rw e at M.call.state)

  message_emptied : r.refusal ≡ 0 → Emptied words payload after
  unfolding refusal next performed rest_after
  message_emptied done = record {
    cleared = λ f a b P e. reads a b ∙ (empties a b P e).0 f;
    created = λ f a b P e. ap (λ (f : Filter). f.named) (reads a b) ∙ (empties a b P e).1 f;
  }
    where
      z : outcome.number ≡ 0
      z = sym (ap (λ (a : MessageTold). a.refusal) M.answer) ∙ done

      reads : (a b : ℕ) → pair_on after a b ≡ get_or outcome.pairs (pair_at (ports_of words) (a - 1) (b - 1)) clear
      reads a b =
          pair_in_lem after M.call.count a b
          ∙ ap (λ (w : Model). get_or w.rest.pairs (pair_at (ports_of words) (a - 1) (b - 1)) clear) (rw z at M.call.state)

      empties : (a b : ℕ) → IsPair (ports_of words) a b → names_pair payload a b ≡ true
          → (function_of payload ≡ 4 → get_or outcome.pairs (pair_at (ports_of words) (a - 1) (b - 1)) clear ≡ clear)
          × (function_of payload ≡ 6 → (get_or outcome.pairs (pair_at (ports_of words) (a - 1) (b - 1)) clear).named ≡ [])
      empties a b P e = messaged_emptied (ports_of words) (rest_of words) (pairs_long (ports_of words) words) a b P (length words) (length lent) port requester payload e z

-- ---- what a tool is told
module _ {words other payload lent after back after₂ back₂ : List ℕ} {p requester : ℕ} {r r₂ : MessageTold}
    (least : 2 ≤ p) (most : p ≤ ports_of words) (same : ports_of words ≡ ports_of other) (long : length words ≡ length other) (S : SameTo p words other)
    (M : Messaging (ports_of words) words after p requester payload lent back r) (N : Messaging (ports_of words) other after₂ p requester payload lent back₂ r₂) where
  same_told : (r ≡ r₂) × (back ≡ back₂)
  same_told =
      let t = messaged_told p words other same S requester payload least most (length words) (length lent) in
      (M.answer ∙ rw (t.0, t.1, t.2, t.3, long) (sym N.answer), M.written ∙ rw (t.2, long) (sym N.written))

-- ---- the round trip
module _ {words payload lent after back other lent₂ after₂ back₂ : List ℕ} {port requester port₂ requester₂ a b : ℕ} {r r₂ : MessageTold}
    (S : Standing words) (M : Messaging (ports_of words) words after port requester payload lent back r) (request : function_of payload ≡ 0) (answered : r.refusal ≡ 0)
    (some : 1 ≤ length (list_of words payload).entries)
    (T : Standing other) (P : IsPair (ports_of other) a b) (empty : pair_on other a b ≡ clear) (may : MayCreate other port₂ requester₂ a b lent₂)
    (N : Messaging (ports_of other) other after₂ port₂ requester₂ (6 ∷ (16 * a + b) ∷ drop 2 (take r.length back)) lent₂ back₂ r₂) where
  abbrev first_outcome : Replied
  first_outcome = messaged (ports_of words) (length words) (length lent) (rest_of words) port requester payload

  answered_by : (o : Replied) (seen : Seen) → r ≡ message_answer o seen → back ≡ o.written seen ++ drop (length (o.written seen)) lent → take r.length back ≡ o.written seen
  answered_by o seen a b = rw (a, b) (take_at (o.written seen) (drop (length (o.written seen)) lent) (length (o.written seen)) refl)

  restored_pair : (r₂.refusal ≡ 0) × (pair_on after₂ a b ≡ plain (list_of words payload))
  unfolding refusal next performed rest_after
  restored_pair =
      let z : first_outcome.number ≡ 0 = sym (ap (λ (a : MessageTold). a.refusal) M.answer) ∙ answered in
      let R = request_reported (ports_of words) (rest_of words) requester payload (length words) (length lent) port request z in
      let f = list_of words payload in
      let G = S.good (pair_at (ports_of words) (from_of (pair_of payload) - 1) (to_of (pair_of payload) - 1)) in
      let e : take r.length back ≡ list_reply (pair_of payload) f = answered_by first_outcome (unit_in words).seen M.answer M.written ∙ R (unit_in words).seen in
      let B = sent_back (ports_of other) (ports_bounds other).1 (rest_of other) (pairs_long (ports_of other) other) f G.sound G.pgns some (pair_of payload) a b P empty (length other) (length lent₂) port₂ requester₂ T.long may.room (tool_port (ports_bounds other).0 P may.right) may.claimed may.address may.right in
      finish (6 ∷ (16 * a + b) ∷ drop 2 (list_reply (pair_of payload) f)) (rw e at N) B.0 B.1
    where
      finish : (payload₂ : List ℕ) → Messaging (ports_of other) other after₂ port₂ requester₂ payload₂ lent₂ back₂ r₂
          → (messaged (ports_of other) (length other) (length lent₂) (rest_of other) port₂ requester₂ payload₂).number ≡ 0
          → get_or (messaged (ports_of other) (length other) (length lent₂) (rest_of other) port₂ requester₂ payload₂).pairs (pair_at (ports_of other) (a - 1) (b - 1)) clear ≡ plain (list_of words payload)
          → (r₂.refusal ≡ 0) × (pair_on after₂ a b ≡ plain (list_of words payload))
      finish payload₂ N' z p = (
        ap (λ (a : MessageTold). a.refusal) N'.answer ∙ z,
        pair_in_lem after₂ N'.call.count a b ∙ ap (λ (w : Model). get_or w.rest.pairs (pair_at (ports_of other) (a - 1) (b - 1)) clear) (rw z at N'.call.state) ∙ p,
      )

-- ---- the whole
pub demand_2 : Demand2
demand_2 = record {
  not_back = λ h. frame_back (framing h);
  always = λ h done free which. crossing (framing h) done free which;
  why = λ h. reasons (framing h);
  told = λ h. counts (framing h);
  ordered = λ {words} R a b. in_order (pair_on words a b) ((stands R).good (pair_at (ports_of words) (a - 1) (b - 1))).sound;
  only_named = λ h. message_named (messaging h);
  emptied = λ h done. message_emptied (messaging h) done;
  private = λ least most same long S h g. same_told least most same long S (messaging h) (rw (← same) at (messaging g));
  again = λ R h request answered some T P empty may g.
      restored_pair (stands R) (messaging h) request answered some (stands T) P empty may (messaging g);
}
