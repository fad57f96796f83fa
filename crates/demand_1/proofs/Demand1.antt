-- Demand 1 from the contracts: each number is the first of its call's checks (`exact`), and what a refusal leaves is in the contract. Assumes nothing.
use Rattle.bridge.specs.Told.{FrameTold, TakeTold, StartTold, UnitTold, CountsTold}
use mathlib.Core.Path.{◌≡◌, refl, sym, ap, ◌∙◌}
use mathlib.Core.Bool.{Bool, true, false, cond, not, true≢false}
use mathlib.Core.List.{List, [], ◌++◌}
use Prim.Native.Nat.{ℕ, ◌-◌}
use native.Mathlib.Omega.{arith}
use borrow.Author.Tests.{eqb-true, eqb-false, not-true}
use lib.ListN.{length, drop}
use lib.Dec.{eqb}
use Rattle.network_message.specs.Asked.{Asked, Refused, Request, WithEntries, Clear, AddressList, Parameter, Reset, PairParameter, PairReset}
use Rattle.checks.specs.Checks.{acknowledges}
use Rattle.checks.proofs.FirstNumber.{first_in}
use Rattle.network_message.specs.Decoding.{function_of, decoded}
use Rattle.replies.specs.Replies.{control_of, acknowledgment}
use Rattle.unit.specs.declared.Unit.{Unit}
use Rattle.unit.specs.Count.{is_count, count_of, ports_of, pair_count}
use Rattle.unit.specs.Model.{Rest, Seen, Model, model_of, record_length}
use Rattle.unit.specs.PowerOn.{not_long, fresh, power_on_refusal}
use Rattle.refusals.specs.Refusals.{frame_refusal, take_refusal, start_refusal, quiet_refusal, length_refusal}
use Rattle.message_answers.specs.Messages.{Replied, acknowledged, performed_by, MessageTold}
use Rattle.bridge.specs.Calls.{silent_reply, messaged}
use Rattle.refusals.specs.Refusals.{message_checks, message_refusal}
use Rattle.bridge.specs.Calls.{refusal, frame_passed, frame_refused, frame_answer, take_answer, take_number, start_refused, start_answer, unit_answer, read_number, counts_refused, counts_answer, Framing, TakingOut, Messaging, Starting, Quieting, Reading, Counting}
use Rattle.message_answers.specs.Messages.{message_answer}
use Rattle.unit.specs.PowerOn.{PoweringOn}
use Rattle.demand_1.specs.Demand1.{power_on_numbers, frame_numbers, take_numbers, start_numbers, quiet_numbers, unit_numbers, counts_numbers, message_numbers, Exact, Unchanged, ByPowerOn, Writes, Tells, rest_of, Demand1}
use Rattle.delivery.specs.Row.{pull, given}
use Rattle.queue.specs.Queue.{priority}
use Rattle.unit.specs.Ports.{mask}
use Rattle.unit.specs.Model.{queue_on, row_at}
use Rattle.forwarding.specs.Forwarding.{loses_own}
use Rattle.claims.specs.Claims.{started}
use Rattle.bridge.specs.Calls.{frame_of}
use Rattle.filter.specs.Filter.{Filter}
use Rattle.entries.specs.Entries.{entries_of}
use Rattle.network_message.specs.Decoding.{between}
use Rattle.network_message.specs.Commands.{Good}
use Rattle.network_message.proofs.Decoding.{decoded_good}
use Rattle.filter_commands.specs.declared.pairs.Change.{Change}
use Rattle.filter_commands.specs.declared.pairs.Change.TheVariants.{Adds, Deletes, Creates, Names}
use Rattle.list_commands.specs.declared.Absent.{Absent}
use Rattle.list_commands.specs.Commands.{list_checks, list_refusal, commanded}
use Rattle.message_answers.specs.Messages.{changed_by, replied, reset_at}
use Rattle.unit.proofs.Count.{count_four}
use Rattle.unit.proofs.Own.{own_ports}
use Rattle.refusals.proofs.Checks.{message_goes}
use Rattle.made.proofs.Made.{powering, framing, taking, messaging, starting, quieting, reading, counting}
use Rattle.demand_1.proofs.Numbers.{exact, message_number_lem}
use Rattle.demand_1.proofs.Told.{Telling, messaged_telling}

-- ---- power-on and Quiet
-- 27 is given where the count is none, so the ports are four, and where the record has the length for them
with_four : (long count-is : Bool) → ◌≡◌ {A = ℕ} (cond (not long) 2 (cond (not count-is) 27 0)) 27 → (long ≡ true) × (count-is ≡ false)
with_four false b e = absurd (omega arith)
with_four true true e = absurd (omega arith)
with_four true false e = (refl, refl)

power_on_exact : {words after : List ℕ} {name preferred count r : ℕ} → PoweringOn count words after name preferred r
    → Exact (power_on_numbers count (length words)) r × ByPowerOn words after name preferred r
unfolding power_on_refusal pair_count
power_on_exact {words = words} {after = after} {name = name} {preferred = preferred} {count = count} {r = r} P = (
  rw P.answer (exact (power_on_numbers count (length words)) refl),
  record {
    kept = P.refused;
    four = λ e.
        let w = with_four (eqb (length words) (record_length (count_of count))) (is_count count) (sym P.answer ∙ e) in
        let n : count_of count ≡ 4 = count_four count w.1 in
        let s : model_of 4 after ≡ fresh 4 name preferred = rw n at (P.state (λ t. omega (arith, e, t))) in
        let l : length words ≡ record_length 4 = rw n at (eqb-true (length words) (record_length (count_of count)) w.0) in
        (P.long ∙ l, sym (own_ports 4 after) ∙ ap (λ (m : Model). m.rest.own.ports) s, s);
  },
)

quiet_exact : {words after : List ℕ} {r : ℕ} → Quieting (ports_of words) words after r → Exact (quiet_numbers (ports_of words) (length words) (rest_of words)) r × Unchanged r words after
unfolding quiet_refusal refusal
quiet_exact {words = words} Q = (rw Q.answer (exact (quiet_numbers (ports_of words) (length words) (rest_of words)) refl), λ h. Q.call.refused (λ z. h (Q.answer ∙ z)))

-- ---- a frame
frame_exact : {words bytes after : List ℕ} {port id : ℕ} {r : FrameTold} → Framing (ports_of words) words after port id bytes r
    → Exact (frame_numbers (ports_of words) (length words) port id (length bytes)) r.refusal × Unchanged r.refusal words after × ((r.refusal ≡ 0 → ⊥) → r ≡ frame_refused r.refusal)
unfolding frame_answer refusal frame_refusal frame_passed
frame_exact {words = words} {bytes = bytes} {after = after} {port = port} {id = id} {r = r} F = go (eqb n 0) refl F.answer
  where
    n : ℕ
    n = frame_refusal (ports_of words) (length words) port id (length bytes)

    numbers : r.refusal ≡ n → Exact (frame_numbers (ports_of words) (length words) port id (length bytes)) r.refusal × Unchanged r.refusal words after
    numbers e = (rw e (exact (frame_numbers (ports_of words) (length words) port id (length bytes)) refl), λ h. F.call.refused (λ z. h (e ∙ z)))

    go : (t : Bool) → eqb n 0 ≡ t → r ≡ cond t (frame_passed (ports_of words) (model_of (ports_of words) words) port (frame_of id bytes)) (frame_refused n)
        → Exact (frame_numbers (ports_of words) (length words) port id (length bytes)) r.refusal × Unchanged r.refusal words after × ((r.refusal ≡ 0 → ⊥) → r ≡ frame_refused r.refusal)
    go true e a =
        let z : r.refusal ≡ 0 = ap (λ (x : FrameTold). x.refusal) a in
        let b = numbers (z ∙ sym (eqb-true n 0 e)) in
        (b.0, b.1, λ h. absurd (h z))
    go false e a =
        let z : r.refusal ≡ n = ap (λ (x : FrameTold). x.refusal) a in
        let b = numbers z in
        (b.0, b.1, λ _. a ∙ ap frame_refused (sym z))

-- ---- a take
take_exact : {words after : List ℕ} {port : ℕ} {r : TakeTold} → TakingOut (ports_of words) words after port r → Exact (take_numbers (ports_of words) (length words) port) (take_number r) × Unchanged (take_number r) words after
unfolding take_answer refusal take_refusal
take_exact {words = words} {after = after} {port = port} {r = r} T = go (eqb n 0) refl T.answer
  where
    n : ℕ
    n = take_refusal (ports_of words) (length words) port

    numbers : take_number r ≡ n → Exact (take_numbers (ports_of words) (length words) port) (take_number r) × Unchanged (take_number r) words after
    numbers e = (rw e (exact (take_numbers (ports_of words) (length words) port) refl), λ h. T.call.refused (λ z. h (e ∙ z)))

    go : (t : Bool) → eqb n 0 ≡ t → r ≡ cond t (TakeTold.Took (given (pull priority (row_at (model_of (ports_of words) words) (port - 1))))) (TakeTold.Refused n) → Exact (take_numbers (ports_of words) (length words) port) (take_number r) × Unchanged (take_number r) words after
    go true e a = numbers (ap take_number a ∙ sym (eqb-true n 0 e))
    go false e a = numbers (ap take_number a)

-- ---- Start
start_exact : {words after : List ℕ} {r : StartTold} → Starting (ports_of words) words after r → Exact (start_numbers (ports_of words) (length words) (rest_of words)) r.refusal × Unchanged r.refusal words after × ((r.refusal ≡ 0 → ⊥) → r ≡ start_refused r.refusal)
unfolding start_answer refusal start_refusal
start_exact {words = words} {after = after} {r = r} S = go (eqb n 0) refl S.answer
  where
    rest : Rest
    rest = rest_of words

    n : ℕ
    n = start_refusal (ports_of words) (length words) (rest_of words).own

    numbers : r.refusal ≡ n → Exact (start_numbers (ports_of words) (length words) (rest_of words)) r.refusal × Unchanged r.refusal words after
    numbers e = (rw e (exact (start_numbers (ports_of words) (length words) (rest_of words)) refl), λ h. S.call.refused (λ z. h (e ∙ z)))

    go : (t : Bool) → eqb n 0 ≡ t → r ≡ cond t (record { refusal = 0; unsent = mask (λ q. loses_own (started (rest_of words)).sent (row_at (model_of (ports_of words) words) q)) (ports_of words); claim = (started (rest_of words)).rest.own.claim }) (start_refused n)
        → Exact (start_numbers (ports_of words) (length words) (rest_of words)) r.refusal × Unchanged r.refusal words after × ((r.refusal ≡ 0 → ⊥) → r ≡ start_refused r.refusal)
    go true e a =
        let z : r.refusal ≡ 0 = ap (λ (x : StartTold). x.refusal) a in
        let b = numbers (z ∙ sym (eqb-true n 0 e)) in
        (b.0, b.1, λ h. absurd (h z))
    go false e a =
        let z : r.refusal ≡ n = ap (λ (x : StartTold). x.refusal) a in
        let b = numbers z in
        (b.0, b.1, λ _. a ∙ ap start_refused (sym z))

-- ---- the unit is read
unit_exact : {words : List ℕ} {r : UnitTold} → Reading (ports_of words) words r → Exact (unit_numbers (ports_of words) (length words)) (read_number r)
unfolding unit_answer length_refusal
unit_exact {words = words} {r = r} R = rw (number (not_long (ports_of words) (length words)) R.answer) (exact (unit_numbers (ports_of words) (length words)) refl)
  where
    own : Unit
    own = (rest_of words).own

    number : (b : Bool) → r ≡ cond (eqb (cond b 2 0) 0) (UnitTold.Told own) (UnitTold.Refused (cond b 2 0)) → read_number r ≡ cond b 2 0
    number true a = ap read_number a
    number false a = ap read_number a

-- ---- the counts of a port are read
counts_exact : {words : List ℕ} {port : ℕ} {r : CountsTold} → Counting (ports_of words) words port r
    → Exact (counts_numbers (ports_of words) (length words) port) r.refusal × ((r.refusal ≡ 0 → ⊥) → r ≡ counts_refused r.refusal)
unfolding counts_answer take_refusal
counts_exact {words = words} {port = port} {r = r} C = go (eqb n 0) refl C.answer
  where
    n : ℕ
    n = take_refusal (ports_of words) (length words) port

    numbers : r.refusal ≡ n → Exact (counts_numbers (ports_of words) (length words) port) r.refusal
    numbers e = rw e (exact (counts_numbers (ports_of words) (length words) port) refl)

    go : (t : Bool) → eqb n 0 ≡ t → r ≡ cond t (record { refusal = 0; tally = (queue_on (model_of (ports_of words) words) (port - 1)).tally }) (counts_refused n)
        → Exact (counts_numbers (ports_of words) (length words) port) r.refusal × ((r.refusal ≡ 0 → ⊥) → r ≡ counts_refused r.refusal)
    go true e a =
        let z : r.refusal ≡ 0 = ap (λ (x : CountsTold). x.refusal) a in
        (numbers (z ∙ sym (eqb-true n 0 e)), λ h. absurd (h z))
    go false e a =
        let z : r.refusal ≡ n = ap (λ (x : CountsTold). x.refusal) a in
        (numbers z, λ _. a ∙ ap counts_refused (sym z))

-- ---- a message
-- what is written goes by the number
pub record Fits (payload : List ℕ) (requester : ℕ) (o : Replied) (seen : Seen) : Type 0 where
  pub quiet : (o.number ≡ 0 → ⊥) → acknowledges o.number ≡ false → (o.written seen ≡ []) × (o.pgn ≡ 0)
  pub told : acknowledges o.number ≡ true
      → (o.written seen ≡ acknowledgment (control_of o.number) (function_of payload) requester) × (o.pgn ≡ 59392)

-- 0, or a number of the lists
list_number : (ports : ℕ) (change : Change) (xs : List ℕ) (from to : ℕ) (pairs : List Filter) → (list_refusal ports change xs from to pairs ≡ 0 → ⊥)
    → acknowledges (list_refusal ports change xs from to pairs) ≡ true
unfolding list_refusal list_checks
list_number ports Adds xs from to pairs n = first_in acknowledges (list_checks ports Adds xs from to pairs) refl n
list_number ports Deletes xs from to pairs n = first_in acknowledges (list_checks ports Deletes xs from to pairs) refl n
list_number ports (Creates passing) xs from to pairs n = first_in acknowledges (list_checks ports (Creates passing) xs from to pairs) refl n
list_number ports (Names name mask) xs from to pairs n = first_in acknowledges (list_checks ports (Names name mask) xs from to pairs) refl n

module _ (ports : ℕ) (rest : Rest) (requester : ℕ) (payload : List ℕ) (seen : Seen) where
  silent_fits : (n : ℕ) → ((n ≡ 0 → ⊥) → not (acknowledges n) ≡ true) → (n ≡ 0 → ⊥) → Fits payload requester (silent_reply n rest.pairs) seen
  silent_fits n h z = record { quiet = λ _ _. (refl, refl); told = λ a. absurd (true≢false (sym a ∙ not-true (acknowledges n) (h z))) }

  told_fits : (n : ℕ) (pairs : List Filter) (t : Absent) → ((n ≡ 0 → ⊥) → acknowledges n ≡ true) → Fits payload requester (acknowledged n requester payload pairs t) seen
  told_fits n pairs t h = record { quiet = λ z a. absurd (true≢false (sym (h z) ∙ a)); told = λ _. (refl, refl) }

  done_fits : (bytes : Seen → List ℕ) → Fits payload requester (replied bytes rest.pairs) seen
  done_fits bytes = record { quiet = λ z. absurd (z refl); told = λ a. absurd (true≢false (sym a)) }

  reset_fits : (i : ℕ) → Fits payload requester (reset_at i requester payload rest.pairs) seen
  reset_fits i = record { quiet = λ z. absurd (z refl); told = λ a. absurd (true≢false (sym a)) }

  changed_fits : (change : Change) (from to start end : ℕ) → Fits payload requester (changed_by ports rest requester payload change from to start end) seen
  changed_fits change from to start end =
      told_fits (list_refusal ports change (entries_of (between start end payload)) from to rest.pairs) (commanded ports change (entries_of (between start end payload)) from to rest.pairs) _
      (list_number ports change (entries_of (between start end payload)) from to rest.pairs)

  performed_fits : (c : Asked) → Good ports payload c → Fits payload requester (performed_by ports rest requester payload c) seen
  unfolding performed_by
  performed_fits (Refused number entry) g = told_fits number rest.pairs _ (λ _. g)
  performed_fits (Request from to) g = done_fits _
  performed_fits (WithEntries change from to start end) g = changed_fits change from to start end
  performed_fits (Clear from to) g = told_fits 0 _ _ (λ z. absurd (z refl))
  performed_fits (AddressList port) g = done_fits _
  performed_fits (Parameter parameter) g = done_fits _
  performed_fits Reset g = reset_fits _
  performed_fits (PairParameter from to parameter) g = done_fits _
  performed_fits (PairReset from to) g = reset_fits _

  messaged_fits : (lent lentReply port : ℕ) → Fits payload requester (messaged ports lent lentReply rest port requester payload) seen
  unfolding messaged message_refusal
  messaged_fits lent lentReply port = go (eqb n 0) refl
    where
      n : ℕ
      n = message_refusal ports lent lentReply rest port requester (length payload)

      go : (t : Bool) → eqb n 0 ≡ t → Fits payload requester (cond t (performed_by ports rest requester payload (decoded ports port payload)) (silent_reply n rest.pairs)) seen
      go true z = performed_fits (decoded ports port payload) (decoded_good ports port payload (message_goes ports lent lentReply rest port requester (length payload) (eqb-true n 0 z)).2)
      go false z = silent_fits n (first_in (λ k. not (acknowledges k)) (message_checks ports lent lentReply rest port requester (length payload)) refl) (eqb-false n 0 z)

writes_by : {lent back payload : List ℕ} {requester : ℕ} {r : MessageTold} (o : Replied) (seen : Seen) → Fits payload requester o seen
    → r ≡ message_answer o seen → back ≡ o.written seen ++ drop (length (o.written seen)) lent → Writes lent back payload requester r
unfolding acknowledgment
writes_by o seen F a b = record {
  nothing = λ z k.
      let q = F.quiet (λ e. z (rw a e)) (rw a at k) in
      (b ∙ rw q.0, rw (a, q.1), rw (a, q.0));
  acknowledged = λ k.
      let q = F.told (rw a at k) in
      (b ∙ rw (q.0, a), rw (a, q.1), rw (a, q.0));
}

tells_by : {words payload : List ℕ} {r : MessageTold} (o : Replied) (seen : Seen) → Telling words payload o.number o.told → r ≡ message_answer o seen → Tells words payload r
tells_by o seen T a = rw a (record { wrong = T.0; absent = T.1; nothing = T.2 })

message_exact : {words payload lent after back : List ℕ} {port requester : ℕ} {r : MessageTold} → Messaging (ports_of words) words after port requester payload lent back r
    → Exact (message_numbers (ports_of words) (length words) (length lent) (rest_of words) port requester payload) r.refusal × Unchanged r.refusal words after × Writes lent back payload requester r × Tells words payload r
unfolding refusal
message_exact {words = words} {payload = payload} {lent = lent} {port = port} {requester = requester} {r = r} M =
    let rest = rest_of words in
    let z : r.refusal ≡ (messaged (ports_of words) (length words) (length lent) rest port requester payload).number = ap (λ (a : MessageTold). a.refusal) M.answer in (
      rw (z, message_number_lem (ports_of words) rest requester payload (length words) (length lent) port) (exact (message_numbers (ports_of words) (length words) (length lent) rest port requester payload) refl),
      λ h. M.call.refused (λ e. h (z ∙ e)),
      writes_by (messaged (ports_of words) (length words) (length lent) rest port requester payload) (model_of (ports_of words) words).seen
          (messaged_fits (ports_of words) rest requester payload (model_of (ports_of words) words).seen (length words) (length lent) port) M.answer M.written,
      tells_by (messaged (ports_of words) (length words) (length lent) rest port requester payload) (model_of (ports_of words) words).seen (messaged_telling words payload requester (length words) (length lent) port) M.answer,
    )

-- ---- the whole
pub demand_1 : Demand1
demand_1 = record {
  defined = ((λ κs w name preferred count. tt), (λ κs w b port id. tt), (λ κs w port. tt), (λ κs w p b port requester. tt), (λ κs w. tt), (λ κs w. tt), (λ κs w. tt), (λ κs w port. tt));
  power_on = λ h. power_on_exact (powering h);
  frame = λ h. frame_exact (framing h);
  take = λ h. take_exact (taking h);
  message = λ h. message_exact (messaging h);
  start = λ h. start_exact (starting h);
  quiet = λ h. quiet_exact (quieting h);
  unit = λ h. unit_exact (reading h);
  counts = λ h. counts_exact (counting h);
}
