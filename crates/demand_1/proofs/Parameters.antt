-- What is asked for by a parameter's functions: the number is that of the table, with the function in it; what was done is the function's command, whose reply
-- is the value in two bytes, since no value has more. Assumes nothing.
use mathlib.Core.Path.{◌≡◌, refl, sym, ap, ◌∙◌}
use mathlib.Core.Logic.{◌⊎◌, inl, inr, ⊎_elim}
use mathlib.Core.Bool.{Bool, true, false, not, cond, ◌&&◌, ◌||◌, true≢false}
use mathlib.Core.List.{List, [], ◌∷◌, ◌++◌}
use Prim.Native.Nat.{ℕ, zero, suc, ◌+◌, ◌-◌, ◌*◌, ◌/◌, ◌%◌, ◌≤◌, ◌<◌}
use native.Mathlib.Omega.{arith}
use native.Mathlib.Decide.{dec_lt}
use borrow.Author.Tests.{eqb-true, eqb-false, ne_eqb, ltb-true, ltb-false}
use lib.ListN.{length, get_or, take, drop, length-take, length-drop}
use lib.Dec.{eqb, ltb, leb}
use Rattle.storage.specs.Blocks.{blocks_of}
use Rattle.storage.specs.Bytes.{bytes_of}
use Rattle.storage.proofs.Blocks.{length_blocks}
use Rattle.checks.specs.Checks.{first}
use Rattle.checks.specs.Ports.{is_port, no_port}
use Rattle.checks.proofs.Ports.{port_bounds}
use Rattle.filter.specs.Filter.{Filter, clear, filter_of, block_size as filter_length}
use Rattle.filter.proofs.Meaning.{counting}
use Rattle.entries.specs.Entries.{listed}
use Rattle.losses.specs.Losses.{most, counter_length, losses_of}
use Rattle.losses.proofs.Counters.{held_most}
use Rattle.network_message.specs.Asked.{Asked, Refused, PairParameter}
use Rattle.network_message.specs.Decoding.{is_known, is_general, may_be_all, is_pair, names_ports, may_name, holds_parameter, has_good_body, has_wrong_mode, longest, refusal_of, judged, command_of, decoded}
use Rattle.network_message.specs.Commands.{Ports, Good}
use Rattle.network_message.proofs.Decoding.{decoded_good}
use Rattle.replies.specs.Replies.{filled, parameter_reply, acknowledgment}
use Rattle.unit.specs.Count.{ports_of, pair_count}
use Rattle.unit.specs.Ports.{total}
use Rattle.unit.specs.Model.{Rest, Seen, pair_at, pairs_from, losses_from, record_length, model_of}
use Rattle.record.proofs.Regions.{pair_of, losses_of_lem}
use Rattle.unit.specs.PowerOn.{not_long}
use Rattle.unit.specs.Own.{is_claimed}
use Rattle.unit.proofs.Count.{ports_bounds, pairs_most, pair_below}
use Rattle.parameters.specs.Parameters.{entries_at, pair_parameter, general_parameter}
use Rattle.message_answers.specs.Messages.{Replied as Done, performed_by, message_answer, MessageTold}
use Rattle.refusals.specs.Refusals.{message_refusal}
use Rattle.refusals.proofs.Checks.{message_goes}
use Rattle.bridge.specs.Calls.{silent_reply, messaged, Messaging}
use Rattle.made.proofs.Made.{messaging}
use Rattle.demand_1.specs.Demand1.{function, from, to, parameter, rest_of, message_numbers, none_applies}
use Rattle.demand_1.specs.Parameters.{in_general, of_aPair, if_held, if_nine, Numbered, Says, entries_in, pair_place, Replied, Acknowledged, Parameters}
use Rattle.demand_1.proofs.Numbers.{message_number_lem, held_is}

-- ---- the number
-- where none of 1 to 8 applies
past_early : (a b c d e : Bool) (n : ℕ) → not a && (not b && (not c && (not d && (not e && true)))) ≡ true → cond a 1 (cond b 2 (cond c 6 (cond d 7 (cond e 8 n)))) ≡ n
past_early true b c d e n h = absurd (true≢false (sym h))
past_early false true c d e n h = absurd (true≢false (sym h))
past_early false false true d e n h = absurd (true≢false (sym h))
past_early false false false true e n h = absurd (true≢false (sym h))
past_early false false false false true n h = absurd (true≢false (sym h))
past_early false false false false false n h = refl

-- a general function: no pair, and port 1's alone
by_port : (own h k : Bool) (n : ℕ) → h ≡ k → cond (not (own || false)) 11 (cond k 23 n) ≡ cond (not own) 11 (cond h 23 n)
by_port true h k n e = rw e
by_port false h k n e = refl

-- a pair's: To 15 is no port
by_pair : (a b apart first own here all two h k : Bool) (n : ℕ) → (b ≡ true → all ≡ false) → h ≡ k
    → cond (not (a && ((b || (all && false)) && apart))) 10 (cond (not (first || (here || (own || (all && two))))) 11 (cond k 23 n))
    ≡ cond (not (a && (b && apart))) 10 (cond (not (first || (own || here))) 11 (cond h 23 n))
by_pair false b apart first own here all two h k n f e = refl
by_pair true false apart first own here true two h k n f e = refl
by_pair true false apart first own here false two h k n f e = refl
by_pair true true false first own here all two h k n f e = refl
by_pair true true true true own here all two h k n f e = rw e
by_pair true true true false true true all two h k n f e = rw e
by_pair true true true false true false all two h k n f e = rw e
by_pair true true true false false true all two h k n f e = rw e
by_pair true true true false false false all two h k n f e = rw (f refl)

module _ (ports port requester lent lentReply : ℕ) (rest : Rest) (payload : List ℕ) where
  abbrev late : ℕ
  late = first (drop 5 (message_numbers ports lent lentReply rest port requester payload))

  request_number : function payload ≡ 128 → late ≡ in_general port (if_held payload)
  unfolding is_known is_general names_ports may_name holds_parameter has_good_body has_wrong_mode listed
  request_number e = rw e (by_port (eqb port 1) _ _ _ (rw e at (held_is payload)))

  reset_number : function payload ≡ 130 → late ≡ in_general port (if_nine payload)
  unfolding is_known is_general names_ports may_name holds_parameter has_good_body has_wrong_mode listed
  reset_number e = rw e (by_port (eqb port 1) _ _ _ (rw e at (held_is payload)))

  not_all : ports ≤ 8 → is_port ports (to payload) ≡ true → eqb (to payload) 15 ≡ false
  not_all small h = ne_eqb (to payload) 15 (λ e. omega (arith, (port_bounds ports (to payload) h).1))

  pair_request_number : ports ≤ 8 → function payload ≡ 131 → late ≡ of_aPair ports port payload (if_held payload)
  unfolding is_known is_general may_be_all is_pair names_ports may_name holds_parameter has_good_body has_wrong_mode listed
  pair_request_number small e =
      rw e (by_pair (is_port ports (from payload)) (is_port ports (to payload)) (not (eqb (from payload) (to payload))) (eqb port 1) (eqb (from payload) port) (eqb (to payload) port) (eqb (to payload) 15) (eqb ports 2) _ _ _ (not_all small) (rw e at (held_is payload)))

  pair_reset_number : ports ≤ 8 → function payload ≡ 133 → late ≡ of_aPair ports port payload (if_nine payload)
  unfolding is_known is_general may_be_all is_pair names_ports may_name holds_parameter has_good_body has_wrong_mode listed
  pair_reset_number small e =
      rw e (by_pair (is_port ports (from payload)) (is_port ports (to payload)) (not (eqb (from payload) (to payload))) (eqb port 1) (eqb (from payload) port) (eqb (to payload) port) (eqb (to payload) 15) (eqb ports 2) _ _ _ (not_all small) (rw e at (held_is payload)))

  reply_number : (function payload ≡ 129) ⊎ (function payload ≡ 132) → late ≡ 9
  unfolding is_known listed
  reply_number (inl e) = rw e refl
  reply_number (inr e) = rw e refl

  heard_number : none_applies (take 5 (message_numbers ports lent lentReply rest port requester payload)) ≡ true → (messaged ports lent lentReply rest port requester payload).number ≡ late
  heard_number h =
      message_number_lem ports rest requester payload lent lentReply port
      ∙ past_early (no_port ports port) (not_long ports lent || ltb lentReply longest) (not (is_claimed rest.own.claim)) (not (leb 8 (length payload) && leb (length payload) longest)) (ltb 253 requester) late h

numbered : {words payload lent after back : List ℕ} {port requester : ℕ} {r : MessageTold} → Messaging (ports_of words) words after port requester payload lent back r
    → none_applies (take 5 (message_numbers (ports_of words) (length words) (length lent) (rest_of words) port requester payload)) ≡ true
    → Numbered words payload port r
numbered {words = words} {payload = payload} {lent = lent} {port = port} {requester = requester} {r = r} M h =
    let n = ports_of words in
    let small = (ports_bounds words).1 in
    let z : r.refusal ≡ late n port requester (length words) (length lent) (rest_of words) payload = ap (λ (a : MessageTold). a.refusal) M.answer ∙ heard_number n port requester (length words) (length lent) (rest_of words) payload h in
    record {
      request = λ e. z ∙ request_number n port requester (length words) (length lent) (rest_of words) payload e;
      reset = λ e. z ∙ reset_number n port requester (length words) (length lent) (rest_of words) payload e;
      pair_request = λ e. z ∙ pair_request_number n port requester (length words) (length lent) (rest_of words) payload small e;
      pair_reset = λ e. z ∙ pair_reset_number n port requester (length words) (length lent) (rest_of words) payload small e;
      reply = λ e. z ∙ reply_number n port requester (length words) (length lent) (rest_of words) payload e;
    }

-- ---- values: none has more than two bytes
two_bytes_lem : (value : ℕ) → value < 65536 → value / 256 % 256 ≡ value / 256
two_bytes_lem value h = omega arith

-- entries
total_first : (f : ℕ → ℕ) (n : ℕ) → total f (suc n) ≡ f 0 + total (λ i. f (suc i)) n
unfolding total
total_first f zero = omega arith
total_first f (suc n) = rw (total_first f n) (omega arith)

total_entries : (fs : List Filter) → total (λ i. length (get_or fs i clear).entries) (length fs) ≡ entries_in fs
unfolding total
total_entries [] = refl
total_entries (f ∷ fs) = total_first (λ i. length (get_or (f ∷ fs) i clear).entries) (length fs) ∙ rw (total_entries fs)

few_entries : (words : List ℕ) (start n : ℕ) → start + filter_length * n ≤ length words → entries_in (blocks_of start filter_length n filter_of words) ≤ 32 * n
unfolding blocks_of
few_entries words start zero h = omega arith
few_entries words start (suc n) h =
    let l : length (take filter_length (drop start words)) ≡ filter_length = omega (arith, length-take filter_length (drop start words), length-drop start words) in
    omega (arith, (counting (take filter_length (drop start words)) (omega (arith, l))).small, few_entries words (start + filter_length) n (omega arith))

module _ (ports : ℕ) (words : List ℕ) (small : ports ≤ 8) (full : length words ≡ record_length ports) where
  abbrev rest : Rest
  rest = (model_of ports words).rest

  as_many : length rest.pairs ≡ pair_count ports
  unfolding model_of
  as_many = length_blocks filter_of filter_length (pairs_from ports) (pair_count ports) words

  all_entries : total (entries_at rest) (pair_count ports) ≡ entries_in rest.pairs
  all_entries = sym (ap (λ n. total (entries_at rest) n) as_many) ∙ total_entries rest.pairs

  all_few : entries_in rest.pairs < 65536
  unfolding model_of
  all_few = omega (arith, few_entries words (pairs_from ports) (pair_count ports) (omega arith), pairs_most small)

  pair_few : (i : ℕ) → i < pair_count ports → length (get_or rest.pairs i clear).entries < 65536
  pair_few i h =
      let block = take filter_length (drop (pairs_from ports + filter_length * i) words) in
      let l : length block ≡ filter_length = omega (arith, length-take filter_length (drop (pairs_from ports + filter_length * i) words), length-drop (pairs_from ports + filter_length * i) words) in
      rw (pair_of ports words i full h) (omega (arith, (counting block (omega (arith, l))).small))

  few_losses : (i : ℕ) → i ≤ pair_count ports → get_or (model_of ports words).seen.losses i 0 < 65536
  few_losses i h =
      let at = losses_from ports + counter_length * i in
      rw (losses_of_lem ports words i full h at refl) (omega (arith, held_most (get_or words at 0)))

-- ---- what was done is the function's command
module _ (ports port requester lent lentReply : ℕ) (rest : Rest) (payload : List ℕ) where
  abbrev done : Done
  done = messaged ports lent lentReply rest port requester payload

  abbrev command : Asked
  command = command_of (function payload) (from payload) (to payload) payload

  command_done : done.number ≡ 0 → (done ≡ performed_by ports rest requester payload command) × (message_refusal ports lent lentReply rest port requester (length payload) ≡ 0) × (refusal_of ports port (function payload) (from payload) (to payload) payload ≡ 0)
  unfolding messaged decoded judged performed_by
  command_done z = go (eqb n 0) (eqb m 0) refl refl z
    where
      n : ℕ
      n = message_refusal ports lent lentReply rest port requester (length payload)

      m : ℕ
      m = refusal_of ports port (function payload) (from payload) (to payload) payload

      by : Bool → Bool → Done
      by s t = cond s (performed_by ports rest requester payload (cond t command (Refused m (judged ports port (function payload) (from payload) (to payload) payload).entry))) (silent_reply n rest.pairs)

      go : (s t : Bool) → eqb n 0 ≡ s → eqb m 0 ≡ t → (by s t).number ≡ 0 → (by s t ≡ performed_by ports rest requester payload command) × (n ≡ 0) × (m ≡ 0)
      go true true e f z = (refl, eqb-true n 0 e, eqb-true m 0 f)
      go true false e f z = absurd (eqb-false m 0 f z)
      go false t e f z = absurd (eqb-false n 0 e z)

-- the pairs to the ports behind From stand one place further back
behind : (a b n : ℕ) → (a ≡ b → ⊥) → a - 1 ≤ b - 1 → 1 ≤ a → 1 ≤ b → b ≤ n → b - 1 - 1 < n - 1
behind a b n h f g i k = elim (dec_lt a b) [ yes x ↦ omega arith | no x ↦ absurd (h (omega arith)) ]

-- the pair that a message names, where neither 10 nor anything else refuses it
place_below : (ports from to : ℕ) → Ports ports from to → to ≤ ports → ports ≤ 8 → pair_at ports (from - 1) (to - 1) < pair_count ports
place_below ports from to P l small = go (ltb (to - 1) (from - 1)) refl
  where
    least : 1 ≤ to
    least = ⊎_elim (λ w. w.0) (λ e. absurd (omega arith)) P.other

    go : (b : Bool) → ltb (to - 1) (from - 1) ≡ b → (ports - 1) * (from - 1) + cond b (to - 1) (to - 1 - 1) < pair_count ports
    go true e = pair_below {ports = ports} {p = from - 1} {k = to - 1} (omega (arith, P.least, P.most)) (omega (arith, ltb-true (to - 1) (from - 1) e, P.most))
    go false e =
        pair_below {ports = ports} {p = from - 1} {k = to - 1 - 1} (omega (arith, P.least, P.most))
        (behind from to ports P.apart (ltb-false (to - 1) (from - 1) e) P.least least l)

-- ---- what is written
says_by : {lent back : List ℕ} {r : MessageTold} (o : Done) (seen : Seen) (f named p value : ℕ) → r ≡ message_answer o seen → back ≡ o.written seen ++ drop (length (o.written seen)) lent
    → o.written seen ≡ parameter_reply f named p value → o.pgn ≡ 60672 → value < 65536 → Says lent back r f named p value
unfolding parameter_reply filled bytes_of
says_by o seen f named p value a b e g small = record {
  bytes = b ∙ rw (e, two_bytes_lem value small);
  pgn = rw (a, g);
  length = rw (a, e);
}

acknowledged_by : {lent back : List ℕ} {r : MessageTold} (o : Done) (seen : Seen) (f requester : ℕ) → r ≡ message_answer o seen → back ≡ o.written seen ++ drop (length (o.written seen)) lent
    → o.written seen ≡ acknowledgment 0 f requester → o.pgn ≡ 59392 → Acknowledged lent back r f requester
unfolding acknowledgment
acknowledged_by o seen f requester a b e g = record {
  bytes = b ∙ rw e;
  pgn = rw (a, g);
  length = rw (a, e);
}

module _ {words payload lent after back : List ℕ} {port requester : ℕ} {r : MessageTold} (M : Messaging (ports_of words) words after port requester payload lent back r) (z : r.refusal ≡ 0) where
  abbrev n : ℕ
  n = ports_of words

  abbrev seen : Seen
  seen = (model_of n words).seen

  abbrev o : Done
  o = done n port requester (length words) (length lent) (rest_of words) payload

  did : (o ≡ performed_by n (rest_of words) requester payload (command_of (function payload) (from payload) (to payload) payload))
      × (message_refusal n (length words) (length lent) (rest_of words) port requester (length payload) ≡ 0)
      × (refusal_of n port (function payload) (from payload) (to payload) payload ≡ 0)
  did = command_done n port requester (length words) (length lent) (rest_of words) payload (sym (ap (λ (a : MessageTold). a.refusal) M.answer) ∙ z)

  small : n ≤ 8
  small = (ports_bounds words).1

  full : length words ≡ record_length n
  full = (message_goes n (length words) (length lent) (rest_of words) port requester (length payload) did.1).0

  general : (p value : ℕ) → function payload ≡ 128 → parameter payload ≡ p → general_parameter n (rest_of words) seen p ≡ value → value < 65536 → Says lent back r 129 0xFF p value
  unfolding command_of performed_by
  general p value e f g l =
      says_by o seen 129 0xFF p value M.answer M.written
      (ap (λ (d : Done). d.written seen) did.0 ∙ rw (e, f, g))
      (ap (λ (d : Done). d.pgn) did.0 ∙ rw e)
      l

  of_pair : (p value : ℕ) → function payload ≡ 131 → parameter payload ≡ p → pair_parameter n (rest_of words) seen (from payload - 1) (to payload - 1) p ≡ value → value < 65536 → Says lent back r 132 (get_or payload 1 0) p value
  unfolding command_of performed_by
  of_pair p value e f g l =
      says_by o seen 132 (get_or payload 1 0) p value M.answer M.written
      (ap (λ (d : Done). d.written seen) did.0 ∙ rw (e, f, g))
      (ap (λ (d : Done). d.pgn) did.0 ∙ rw e)
      l

  pair_is : function payload ≡ 131 → pair_place words payload < pair_count n
  unfolding decoded judged command_of
  pair_is e =
      let g : Good n payload (command_of (function payload) (from payload) (to payload) payload) = rw did.2 at (decoded_good n port payload (message_goes n (length words) (length lent) (rest_of words) port requester (length payload) did.1).2) in
      let p : Good n payload (PairParameter (from payload) (to payload) (parameter payload)) = rw e at g in
      place_below n (from payload) (to payload) p.0 p.1 small

  says : Replied words payload lent back r
  unfolding general_parameter pair_parameter pair_count
  says = record {
    buffer = λ e f. general 1 (416 * n) e f refl (omega (arith, small));
    list = λ e f. general 2 (96 * (n * (n - 1))) e f refl (omega (arith, pairs_most small));
    entries = λ e f. general 3 (entries_in (rest_of words).pairs) e f (all_entries n words small full) (all_few n words small full);
    lost = λ e f. general 9 _ e f refl (few_losses n words small full (pair_count n) (omega arith));
    pair_buffer = λ e f. of_pair 1 416 e f refl (omega arith);
    pair_list = λ e f. of_pair 2 96 e f refl (omega arith);
    pair_entries = λ e f. of_pair 3 _ e f refl (pair_few n words small full (pair_place words payload) (pair_is e));
    pair_lost = λ e f. of_pair 9 _ e f refl (few_losses n words small full (pair_place words payload) (omega (arith, pair_is e)));
  }

  -- by the number that the function is
  reset : (f : ℕ) → function payload ≡ f → (performed_by n (rest_of words) requester payload (command_of f (from payload) (to payload) payload)).written seen ≡ acknowledgment 0 (function payload) requester
      → (performed_by n (rest_of words) requester payload (command_of f (from payload) (to payload) payload)).pgn ≡ 59392 → Acknowledged lent back r (function payload) requester
  reset f e w g =
      let d : o ≡ performed_by n (rest_of words) requester payload (command_of f (from payload) (to payload) payload) = did.0 ∙ ap (λ f. performed_by n (rest_of words) requester payload (command_of f (from payload) (to payload) payload)) e in
      acknowledged_by o seen (function payload) requester M.answer M.written (ap (λ (d : Done). d.written seen) d ∙ w) (ap (λ (d : Done). d.pgn) d ∙ g)

  reset_acknowledged : (function payload ≡ 130) ⊎ (function payload ≡ 133) → Acknowledged lent back r (function payload) requester
  unfolding command_of performed_by
  reset_acknowledged (inl e) = reset 130 e refl refl
  reset_acknowledged (inr e) = reset 133 e refl refl

-- ---- the whole
pub parameters : Parameters
parameters = record {
  number = λ h. numbered (messaging h);
  replied = λ h z. says (messaging h) z;
  acknowledged = λ h z. reset_acknowledged (messaging h) z;
}
