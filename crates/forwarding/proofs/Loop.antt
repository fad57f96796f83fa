-- The loops over the ports: where any such loop stands after n ports, and one more; then a frame by any question that is asked of a port, and the unit's own. Assumes nothing.
use Rattle.std.specs.Prelude.{None, Option, Some}
use mathlib.Core.Path.{◌≡◌, refl, sym, ap, ◌∙◌}
use mathlib.Core.Bool.{Bool, false, true≢false, cond}
use mathlib.Core.List.{List, [], ◌∷◌}
use Prim.Native.Nat.{ℕ, ◌+◌, ◌*◌, ◌/◌, ◌%◌, ◌^◌, ◌≤◌, ◌<◌}
use native.Mathlib.Nat.{add-zero, mul-zero, pow-suc, pow-succ', pow-le-pow_right, div-one, div-div-eq-div-mul}
use native.Mathlib.Numerals.{add-one}
use native.Mathlib.Omega.{arith}
use borrow.Author.Tests.{eq-eqb, ne_eqb}
use lib.Dec.{eqb}
use lib.ListN.{length}
use Rattle.filter.specs.declared.Asked.{Asked}
use Rattle.filter.specs.Filter.{reason_number}
use Rattle.filter.proofs.Reasons.{reason_below}
use Rattle.sorted_list.specs.SortedList.{most_probes}
use Rattle.name_entries.specs.NameEntries.{most_names}
use Rattle.queue.specs.declared.Frame.{Frame}
use Rattle.queue.specs.Queue.{Queued, sent_all, idle}
use Rattle.forwarding.specs.declared.Came.{Came}
use Rattle.forwarding.specs.declared.Offered.{Offered}
use Rattle.forwarding.specs.declared.Share.{Share}
use Rattle.unit.specs.Ports.{each, in_turn, mask, bit_at, digits, total}
use Rattle.unit.specs.Model.{Rest, Model, model_of, queue_on, row_at, with_queue, with_queues, with_losses, record_length}
use Rattle.forwarding.specs.Forwarding.{silent, sent_if, accepts, loses, loses_own, lost_from, lost_own}
use Rattle.forwarding.specs.Steps.{changed_to, came_of, joins, misses, forwarded_to, shares_to, Losing, LosingAll, Sending, Offering, Forwarding, announced_to, unsent_to, OwnJoining, Announcing}
use Rattle.unit.proofs.Ports.{each_later, each_step, turn_step, turn_same, turn_none, mask_bit, mask_step, digits_step, digits_small, total_step, mask_small, choice_small, each_none, mask_none}
use Rattle.record.proofs.Regions.{queues_long}
use Rattle.forwarding.proofs.Sends.{joins_is, misses_is}

-- ---- any loop over the ports
-- where it stands: each of the first n queues is changed by itself, what is lost there is counted, and the bit is the next port's
pub record Along (ports : ℕ) (start : List ℕ) (change : ℕ → Queued → Queued) (lost : ℕ → Bool) (count : ℕ → List ℕ → List ℕ) (words : List ℕ) (bit n : ℕ) : Type 0 where
  pub few : ports ≤ 8
  pub whole : length words ≡ record_length ports
  pub within : n ≤ ports
  pub weight : bit ≡ 2 ^ n
  pub state : model_of ports words ≡ changed_to n (model_of ports start) change lost count

module _ {ports : ℕ} {start : List ℕ} {change : ℕ → Queued → Queued} {lost : ℕ → Bool} {count : ℕ → List ℕ → List ℕ} where
  along_start : ports ≤ 8 → length start ≡ record_length ports → Along ports start change lost count start 1 0
  unfolding each in_turn
  along_start few h = record { few = few; whole = h; within = omega arith; weight = refl; state = refl }

  module _ {words : List ℕ} {bit n : ℕ} (A : Along ports start change lost count words bit n) where
    rest_still : (model_of ports words).rest ≡ (model_of ports start).rest
    rest_still = rw A.state

    -- port n's queue is still the one at the start
    queue_still : queue_on (model_of ports words) n ≡ queue_on (model_of ports start) n
    queue_still = rw A.state (each_later change n (model_of ports start).queues n idle (omega arith))

    row_still : row_at (model_of ports words) n ≡ row_at (model_of ports start) n
    row_still = ap (λ (x : Queued). x.row) queue_still

    along_more : {after : List ℕ} → n < ports → length after ≡ record_length ports
        → model_of ports after ≡ with_losses (with_queue (model_of ports words) n (change n (queue_on (model_of ports words) n))) (cond (lost n) (count n (model_of ports words).seen.losses) (model_of ports words).seen.losses)
        → Along ports start change lost count after (2 * bit) (n + 1)
    along_more more h e = record {
      few = A.few;
      whole = h;
      within = omega arith;
      weight = rw (A.weight, add-one n, pow-succ' 2 n);
      state =
          (rw A.state at e)
          ∙ rw (each_step change n (model_of ports start).queues idle (omega (arith, queues_long ports start)), turn_step lost count n (model_of ports start).seen.losses);
    }

    pub bit_small : n < ports → bit ≤ 128
    bit_small h = rw A.weight (pow-le-pow_right {n = 2} (omega arith) {i = n} {j = 7} (omega (arith, A.few)))

    -- a set of ports below n with port n, or without it
    mask_sum : (test : ℕ → Bool) {set r : ℕ} → n < ports → set ≡ mask test n → r ≤ bit → set + r < 256
    mask_sum test {set} h e l =
        let x : set < 2 ^ n = rw e (mask_small test n) in
        omega (arith, bit_small h, A.weight)

-- ---- a forwarded frame, by any question
pub record Going (ports : ℕ) (start : List ℕ) (question : ℕ → Asked) (f : Frame) (words : List ℕ) (accepted lost reasons compared bit weight n : ℕ) : Type 0 where
  pub along : Along ports start (λ q x. sent_all x (sent_if (question q) f)) (λ q. false) (λ q l. l) words bit n
  pub place : weight ≡ 16 ^ n
  pub answer : record { accepted = accepted; lost = lost; reasons = reasons; compared = compared } ≡ shares_to n (model_of ports start) question
  pub small : compared ≤ (most_probes + most_names) * n

-- forwarding changes queues alone, so what is asked of the rest is answered as it was at the start
pub asked_still : {ports : ℕ} (question : Rest → ℕ → Asked) {start words after : List ℕ} {f : Frame} {accepted lost reasons compared bit weight n : ℕ} {r : Offered} → Going ports start (question (model_of ports start).rest) f words accepted lost reasons compared bit weight n
    → Sending ports words after (question (model_of ports words).rest n) n f r → Sending ports words after (question (model_of ports start).rest n) n f r
asked_still question G S = rw (rest_still G.along) at S

module _ {ports : ℕ} {start : List ℕ} {question : ℕ → Asked} {f : Frame} where
  pub going_start : ports ≤ 8 → length start ≡ record_length ports → Going ports start question f start 0 0 0 0 1 1 0
  unfolding shares_to mask digits total
  going_start few h = record { along = along_start few h; place = refl; answer = refl; small = omega arith }

  pub going_done : {words : List ℕ} {accepted lost reasons compared bit weight n : ℕ} → n ≡ ports → Going ports start question f words accepted lost reasons compared bit weight n
      → Offering ports start words question f (record { accepted = accepted; lost = lost; reasons = reasons; compared = compared })
  going_done e G = record { answer = rw e at G.answer; state = (rw e at G.along.state) ∙ ap (with_losses (with_queues (model_of ports start) (each (λ q x. sent_all x (sent_if (question q) f)) ports (model_of ports start).queues))) (turn_none (λ q l. l) ports (model_of ports start).seen.losses) }

  module _ {words after : List ℕ} {accepted lost reasons compared bit weight n : ℕ} {r : Offered} (G : Going ports start question f words accepted lost reasons compared bit weight n) (S : Sending ports words after (question n) n f r) (more : n < ports) where
    offered_is : r ≡ record { came = came_of (question n) (row_at (model_of ports start) n); reason = reason_number (question n).reason; compared = (question n).compared }
    offered_is = rw (row_still G.along) at S.answer

    joined_is : joins r.came ≡ accepts (question n) (row_at (model_of ports start) n)
    joined_is = rw offered_is (joins_is (question n) (row_at (model_of ports start) n))

    missed_is : misses r.came ≡ loses (question n) (row_at (model_of ports start) n)
    missed_is = rw offered_is (misses_is (question n) (row_at (model_of ports start) n))

    reason_is : r.reason ≡ reason_number (question n).reason
    reason_is = ap (λ (x : Offered). x.reason) offered_is

    pub going_more : length after ≡ record_length ports → Going ports start question f after (accepted + cond (joins r.came) bit 0) (lost + cond (misses r.came) bit 0) (reasons + weight * r.reason) (compared + r.compared) (2 * bit) (16 * weight) (n + 1)
    unfolding shares_to
    going_more h = record {
      along = along_more G.along more h S.state;
      place = rw (G.place, add-one n, pow-succ' 16 n);
      answer =
          let a : accepted ≡ _ = ap (λ (x : Share). x.accepted) G.answer in
          let l : lost ≡ _ = ap (λ (x : Share). x.lost) G.answer in
          let w : reasons ≡ _ = ap (λ (x : Share). x.reasons) G.answer in
          let d : compared ≡ _ = ap (λ (x : Share). x.compared) G.answer in
          let e : r.compared ≡ (question n).compared = ap (λ (x : Offered). x.compared) offered_is in
          rw (a, l, w, d, joined_is, missed_is, reason_is, e, G.along.weight, G.place, mask_step, mask_step, digits_step, total_step);
      small = omega (arith, S.small, G.small);
    }

    -- no sum overflows
    pub reasons_small : reasons + weight * r.reason < 2 ^ 36
    unfolding shares_to
    reasons_small = rw told_sum (omega (arith, digits_small told (λ q. reason_below (question q).reason) (n + 1), pow-le-pow_right {n = 16} (omega arith) {i = n + 1} {j = 8} (omega (arith, G.along.few))))
      where
        told : ℕ → ℕ
        told q = reason_number (question q).reason

        told_sum : reasons + weight * r.reason ≡ digits told (n + 1)
        told_sum =
            let w : reasons ≡ digits told n = ap (λ (x : Share). x.reasons) G.answer in
            rw (w, reason_is, G.place, digits_step)

    pub compared_small : compared + r.compared < 360
    compared_small = omega (arith, S.small, G.small, G.along.few)

  module _ {words : List ℕ} {accepted lost reasons compared bit weight n : ℕ} (G : Going ports start question f words accepted lost reasons compared bit weight n) (more : n < ports) where
    pub weight_small : weight ≤ 2 ^ 28
    weight_small = rw G.place (pow-le-pow_right {n = 16} (omega arith) {i = n} {j = 7} (omega (arith, G.along.few)))

    pub sets_small : (accepted + bit < 256) × (lost + bit < 256)
    unfolding shares_to
    sets_small = (
      mask_sum G.along (λ q. accepts (question q) (row_at (model_of ports start) q)) more (ap (λ (x : Share). x.accepted) G.answer) (omega arith),
      mask_sum G.along (λ q. loses (question q) (row_at (model_of ports start) q)) more (ap (λ (x : Share). x.lost) G.answer) (omega arith),
    )

    -- where nothing is asked, nothing is added
    pub going_self : Sending ports words words (question n) n f (record { came = Came.Stopped; reason = 0; compared = 0 }) → Going ports start question f words accepted lost reasons compared (2 * bit) (16 * weight) (n + 1)
    going_self S = rw (add-zero accepted, add-zero lost, mul-zero weight, add-zero reasons, add-zero compared) at (going_more G S more G.along.whole)

-- ---- the unit's own frame
pub record Telling (ports : ℕ) (start : List ℕ) (f : Frame) (words : List ℕ) (lost bit n : ℕ) : Type 0 where
  pub along : Along ports start (λ q x. sent_all x (f ∷ [])) (λ q. loses_own (Some f) (row_at (model_of ports start) q)) (λ q. lost_own ports) words bit n
  pub answer : lost ≡ unsent_to n (model_of ports start) (Some f)

module _ {ports : ℕ} {start : List ℕ} {f : Frame} where
  pub telling_start : ports ≤ 8 → length start ≡ record_length ports → Telling ports start f start 0 1 0
  unfolding unsent_to mask
  telling_start few h = record { along = along_start few h; answer = refl }

  pub telling_done : {words : List ℕ} {lost bit n : ℕ} → n ≡ ports → Telling ports start f words lost bit n → Announcing ports start words (Some f) lost
  unfolding announced_to
  telling_done e T = record { answer = rw e at T.answer; state = rw e at T.along.state }

  module _ {words after : List ℕ} {lost bit n r : ℕ} (T : Telling ports start f words lost bit n) (J : OwnJoining ports words after n bit f r) (more : n < ports) where
    pub telling_more : length after ≡ record_length ports → Telling ports start f after (lost + r) (2 * bit) (n + 1)
    unfolding unsent_to
    telling_more h = record {
      along =
          along_more T.along more h
          (J.state
          ∙ ap
          (λ row. with_losses (with_queue (model_of ports words) n (sent_all (queue_on (model_of ports words) n) (f ∷ []))) (cond (loses_own (Some f) row) (lost_own ports (model_of ports words).seen.losses) (model_of ports words).seen.losses))
          (row_still T.along));
      answer =
          let e : r ≡ cond (loses_own (Some f) (row_at (model_of ports start) n)) (2 ^ n) 0 = rw (row_still T.along, T.along.weight) at J.answer in
          rw (T.answer, e, mask_step);
    }

    pub told_sums : (lost + r < 256) × (2 * bit ≤ 256)
    unfolding unsent_to
    told_sums = (
      mask_sum T.along (λ q. loses_own (Some f) (row_at (model_of ports start) q)) more T.answer (rw J.answer (choice_small (loses_own (Some f) (row_at (model_of ports words) n)) bit)),
      omega (arith, bit_small T.along more),
    )

-- where it sends none
pub told_nothing : {ports : ℕ} {words : List ℕ} {s : Option Frame} → s ≡ None → Announcing ports words words s 0
unfolding announced_to unsent_to
told_nothing {ports} {words} e = record {
  answer = rw (e, mask_none ports);
  state = rw (e, each_none ports (model_of ports words).queues, turn_none (λ q. lost_own ports) ports (model_of ports words).seen.losses);
}

-- ---- what is lost is counted
-- nowhere, where the set is empty; else at the set's ports, which are those that lose
module _ {ports : ℕ} {before mid : List ℕ} {question : ℕ → Asked} {f : Frame} {s : Share} (O : Offering ports before mid question f s) where
  lost_is : (q : ℕ) → q < ports → bit_at s.lost q ≡ loses (question q) (row_at (model_of ports before) q)
  unfolding shares_to
  lost_is q h = rw O.answer (mask_bit (λ q. loses (question q) (row_at (model_of ports before) q)) ports q h)

  pub lost_home : {p : ℕ} → p < ports → question p ≡ silent → bit_at s.lost p ≡ false
  lost_home {p} h e = lost_is p h ∙ rw e refl

  none_lost : s.lost ≡ 0 → (q : ℕ) → q < ports → loses (question q) (row_at (model_of ports before) q) ≡ false
  none_lost z q h = sym (lost_is q h) ∙ rw z ((rw (mask_none ports) at (mask_bit (λ q. false) ports q h)))

  pub forwarded_none : (p : ℕ) → s.lost ≡ 0 → Forwarding ports before mid p question f s
  unfolding forwarded_to
  forwarded_none p z = record {
    answer = O.answer;
    state =
        O.state
        ∙ ap (with_losses (with_queues (model_of ports before) (each (λ q x. sent_all x (sent_if (question q) f)) ports (model_of ports before).queues)))
        (sym (turn_same (λ q. loses (question q) (row_at (model_of ports before) q)) (λ q. false) (lost_from ports p) ports (model_of ports before).seen.losses (none_lost z) ∙ turn_none (lost_from ports p) ports (model_of ports before).seen.losses));
  }

  pub forwarded_lost : {p : ℕ} {after : List ℕ} → LosingAll ports mid after p (λ q. bit_at s.lost q) → Forwarding ports before after p question f s
  unfolding forwarded_to
  forwarded_lost {p} L = record {
    answer = O.answer;
    state =
        L.state
        ∙ ap (λ (m : Model). with_losses m (in_turn (λ q. bit_at s.lost q) (lost_from ports p) ports m.seen.losses)) O.state
        ∙ ap (with_losses (with_queues (model_of ports before) (each (λ q x. sent_all x (sent_if (question q) f)) ports (model_of ports before).queues)))
        (turn_same (λ q. bit_at s.lost q) (λ q. loses (question q) (row_at (model_of ports before) q)) (lost_from ports p) ports (model_of ports before).seen.losses lost_is);
  }

-- the loop over a set of ports: where it stands
pub record Counted (ports : ℕ) (start : List ℕ) (p lost : ℕ) (words : List ℕ) (set n : ℕ) : Type 0 where
  pub whole : length words ≡ record_length ports
  pub within : n ≤ ports
  pub left : set ≡ lost / 2 ^ n
  pub state : model_of ports words ≡ with_losses (model_of ports start) (in_turn (λ q. bit_at lost q) (lost_from ports p) n (model_of ports start).seen.losses)

module _ {ports : ℕ} {start : List ℕ} {p lost : ℕ} where
  pub counted_start : length start ≡ record_length ports → Counted ports start p lost start lost 0
  unfolding in_turn
  counted_start h = record { whole = h; within = omega arith; left = sym (div-one lost); state = refl }

  pub counted_done : {words : List ℕ} {set n : ℕ} → n ≡ ports → Counted ports start p lost words set n → LosingAll ports start words p (λ q. bit_at lost q)
  counted_done e C = record { state = rw e at C.state }

  module _ {words : List ℕ} {set n : ℕ} (C : Counted ports start p lost words set n) (more : n < ports) where
    -- the next port's bit is the lowest that is left
    bit_is : bit_at lost n ≡ eqb (set % 2) 1
    unfolding bit_at
    bit_is = rw C.left refl

    -- no loss where the frame came from
    pub counted_away : bit_at lost p ≡ false → set % 2 ≡ 1 → p ≡ n → ⊥
    counted_away home odd e = true≢false (sym (bit_is ∙ eq-eqb (set % 2) 1 odd) ∙ ap (bit_at lost) (sym e) ∙ home)

    next_left : set / 2 ≡ lost / 2 ^ (n + 1)
    next_left = rw (C.left, add-one n, pow-suc 2 n) (div-div-eq-div-mul lost (2 ^ n) 2)

    pub counted_more : {after : List ℕ} → length after ≡ record_length ports → set % 2 ≡ 1 → Losing ports words after p n → Counted ports start p lost after (set / 2) (n + 1)
    counted_more h odd L = record {
      whole = h;
      within = omega arith;
      left = next_left;
      state =
          L.state
          ∙ ap (λ (m : Model). with_losses m (lost_from ports p n m.seen.losses)) C.state
          ∙ ap (with_losses (model_of ports start)) (sym (turn_step (λ q. bit_at lost q) (lost_from ports p) n (model_of ports start).seen.losses ∙ rw (bit_is ∙ eq-eqb (set % 2) 1 odd) refl));
    }

    pub counted_passed : (set % 2 ≡ 1 → ⊥) → Counted ports start p lost words (set / 2) (n + 1)
    counted_passed even = record {
      whole = C.whole;
      within = omega arith;
      left = next_left;
      state = C.state ∙ ap (with_losses (model_of ports start)) (sym (turn_step (λ q. bit_at lost q) (lost_from ports p) n (model_of ports start).seen.losses ∙ rw (bit_is ∙ ne_eqb (set % 2) 1 even) refl));
    }
