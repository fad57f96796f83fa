-- One exported call, by its contract: the bridge's call where the lent answer is of its length, and none where it is not. Assumes nothing.
use Rattle.bridge.specs.Told.{TakeTold, UnitTold, Took, Told}
use Rattle.std.specs.Prelude.{Option}
use mathlib.Core.Path.{◌≡◌, refl, sym, ap, ◌∙◌}
use mathlib.Core.Bool.{Bool, true, false, ◌&&◌, true≢false}
use mathlib.Core.Logic.{◌⊎◌, inl, inr, ⊎_elim}
use mathlib.Core.List.{List, []}
use Prim.Native.Nat.{ℕ, ◌+◌, ◌-◌, ◌*◌}
use native.Mathlib.Decide.{ℕ_discrete}
use native.Mathlib.Omega.{arith}
use borrow.Author.Tests.{eq-eqb, ne_eqb, eqb-true, eqb-false}
use lib.Dec.{eqb}
use lib.ListN.{length, take, drop, length-take, length-drop, take-append-drop}
use lib.Seq.{take_at}
use Rattle.checks.specs.Ports.{is_port}
use Rattle.checks.proofs.Tests.{both}
use Rattle.checks.proofs.Ports.{port_bounds}
use Rattle.delivery.specs.Row.{pull, given}
use Rattle.queue.specs.declared.Frame.{Frame}
use Rattle.queue.specs.Queue.{priority, block_length}
use Rattle.message_answers.specs.Messages.{Replied, message_answer, MessageTold}
use Rattle.unit.specs.Count.{ports_of}
use Rattle.unit.specs.Model.{model_of, row_at, record_length, rows_from}
use Rattle.refusals.specs.Refusals.{frame_refusal, take_refusal, start_refusal, length_refusal}
use Rattle.bridge.specs.Calls.{Call, refusal, next, queue_at, messaged, frame_answer, take_answer, start_answer, unit_answer, counts_answer, Calling, Framing, TakingOut, Starting, Reading, Counting}
use Rattle.flat_answers.specs.Answers.{frame_length, take_length, bytes_length, unit_length, counts_length, take_words, bytes_of_taken}
use Rattle.deorasaeng.specs.Interface.{lent_refusal, Served, message_length, start_length, over, taken_from, FrameCall, TakeCall, MessageCall, StartCall, UnitCall, CountsCall, QueueCall}
use Rattle.deorasaeng.proofs.Numbers.{not_0, frame_lent, frame_number_lem, take_lent, take_lent_bytes, take_number_lem, silent, replied_as, start_lent, start_number_lem, unit_lent, unit_number_lem, counts_lent, counts_number_lem, queue_lent, queue_lent_bytes, queue_number_lem}
use Rattle.deorasaeng.proofs.Calls.{frame_refusal_lem, start_refusal_lem, counts_refusal}
use Rattle.record.specs.Steps.{RowTaking}
use Rattle.record.proofs.Regions.{row_taken}
use Rattle.storage.proofs.Parts.{length_back}
use Rattle.bridge.proofs.Answers.{taken}
use Rattle.made.specs.Made as made
use Rattle.demand_3.specs.Demand3.{ToFrame, ToTake, ToMessage, ToStart, ToQuiet, ToUnit, ToCounts}
use Rattle.demand_3.specs.Demand3 as demand_3
use Rattle.c_demands.specs.Exported.{arrived, handed, started, quieted, told_unit, told_counts, took_queue, block_of, with_block}
use Rattle.c_demands.specs.Exported.{took as took_out}
use Rattle.c_demands.specs.CDemands.{Exported, CFrame, CTake, CMessage, CStart, CUnit, CCounts, CTakeQueue, Gave, gave, Made, frame_made, take_made, message_made, start_made, quiet_made, unit_made, counts_made, queue_made, lends, Tells, of_frame, of_take, of_refused_take, of_message, of_start, of_quiet, of_unit_lem, of_refused_unit, of_counts, of_queue, IsCall, IsNone}
use Rattle.address_claims.specs.declared.Event.{Event}
use Rattle.address_claims.specs.declared.Event.TheVariants.{Nothing, Withdrew, Defended, Displaced, Recorded, Refreshed, TookOver, Beaten}
use Rattle.address_claims.specs.Events.{event_number, old_name}
use Rattle.unit.specs.declared.Claim.{Claim}
use Rattle.unit.specs.declared.Claim.TheVariants.{Unstarted, Claiming, Claimed, Lost}
use Rattle.unit.specs.Own.{claim_word}
use Rattle.c_demands.specs.Words.{event_word, old_name_word, state_word, words_of}

-- ---- the record
module _ {ports : ℕ} {w w' : List ℕ} {k : Call} {r : ℕ} (e : r ≡ refusal ports (length w) (model_of ports w).rest k) (S : Served ports w w' k r) where
  moved : r ≡ 0 → model_of ports w' ≡ next ports (length w) (model_of ports w) k
  moved z = rw (eq-eqb r 0 z) at S.state

  stayed : (r ≡ 0 → ⊥) → model_of ports w' ≡ next ports (length w) (model_of ports w) k
  unfolding next
  stayed h = rw (← e, ne_eqb r 0 h) (ap (model_of ports) (S.refused h))

  -- what an exported function does to the record is what the bridge's call does
  called_as : Calling ports w w' k
  called_as = record {
    long = S.long;
    state = elim (ℕ_discrete r 0) [ yes z ↦ moved z | no h ↦ stayed h ];
    count = S.count;
    refused = λ h. S.refused (λ z. h (sym e ∙ z));
  }

-- ---- deorasaeng_frame
module _ {ports : ℕ} {w w' bytes answer told : List ℕ} {port id r : ℕ} (is : ports_of w ≡ ports) (F : FrameCall ports w w' port id bytes answer told r) where
  frame_framing : length answer ≡ frame_length
      → Framing ports w w' port id bytes (frame_answer ports (length w) (model_of ports w) port id bytes) × (r ≡ (frame_answer ports (length w) (model_of ports w) port id bytes).refusal)
  unfolding refusal
  frame_framing e =
      let n : r ≡ frame_refusal ports (length w) port id (length bytes) = F.number ∙ frame_number_lem ports (length w) (length answer) port id (length bytes) e in
      (record { call = called_as n F.served; answer = refl }, n ∙ sym (frame_refusal_lem ports (length w) (model_of ports w) port id bytes))

  frame_none : (length answer ≡ frame_length → ⊥) → IsNone w (CFrame port id bytes answer) (gave r told []) w'
  unfolding lent_refusal
  frame_none h =
      let n : r ≡ lent_refusal ports port = F.number ∙ sym (frame_lent ports (length w) (length answer) port id (length bytes) h) in
      let z : r ≡ 0 → ⊥ = λ z. not_0 ports port (sym n ∙ z) in
      let t : told ≡ answer = rw (ne_eqb r 0 z) at F.tells in
      record { unchanged = F.served.refused z; refused = rw (is, n, t) }

-- ---- deorasaeng_take
module _ {ports : ℕ} {w w' answer told bytes written : List ℕ} {port r : ℕ} (is : ports_of w ≡ ports) (T : TakeCall ports w w' port answer told bytes written r) where
  module _ (e : length answer ≡ take_length) (e' : length bytes ≡ bytes_length) where
    take_refusal_is : r ≡ take_refusal ports (length w) port
    take_refusal_is = T.number ∙ take_number_lem ports (length w) (length answer) port (length bytes) e e'

    -- what the take gives
    abbrev found : Option Frame
    found = given (pull priority (row_at (model_of ports w) (port - 1)))

    answer_found : r ≡ 0 → take_answer ports (length w) (model_of ports w) port ≡ Took found
    unfolding take_answer
    answer_found z = rw (← take_refusal_is, eq-eqb r 0 z)

    answer_refused : (r ≡ 0 → ⊥) → take_answer ports (length w) (model_of ports w) port ≡ TakeTold.Refused r
    unfolding take_answer
    answer_refused h = rw (← take_refusal_is, ne_eqb r 0 h)

    taking_is : {a : TakeTold} → a ≡ take_answer ports (length w) (model_of ports w) port → TakingOut ports w w' port a
    unfolding refusal
    taking_is a = record { call = called_as take_refusal_is T.served; answer = a; ahead = T.ahead; behind = T.behind }

    found_tells : r ≡ 0 → Tells (CTake port answer bytes) (ToTake (Took found)) (gave r told written)
    found_tells z =
        of_take {port = port} {answer = answer} {bytes = bytes} {g = gave r told written} found
        (rw (T.tells, T.writes, z, answer_found z))

    refused_tells : (r ≡ 0 → ⊥) → Tells (CTake port answer bytes) (ToTake (TakeTold.Refused r)) (gave r told written)
    refused_tells h = of_refused_take {port = port} {answer = answer} {bytes = bytes} {g = gave r told written} r h (rw (T.tells, T.writes, ne_eqb r 0 h))

  take_none : r ≡ lent_refusal ports port → IsNone w (CTake port answer bytes) (gave r told written) w'
  unfolding lent_refusal
  take_none n =
      let z : r ≡ 0 → ⊥ = λ z. not_0 ports port (sym n ∙ z) in
      let t : told ≡ answer = rw (ne_eqb r 0 z) at T.tells in
      let b : written ≡ bytes = rw (ne_eqb r 0 z) at T.writes in
      record { unchanged = T.served.refused z; refused = rw (is, n, t, b) }

-- ---- deorasaeng_message
-- the reply's bytes, read off the buffer
over_taken : (written reply back : List ℕ) → back ≡ over written reply → over (take (length written) back) reply ≡ back
over_taken written reply back b = rw (b, take_at written (drop (length written) reply) (length written) refl)

module _ {ports : ℕ} {w w' payload reply back answer told : List ℕ} {port requester r : ℕ} (is : ports_of w ≡ ports) (M : MessageCall ports w w' port requester payload reply back answer told r) where
  abbrev pub outcome : Replied
  outcome = messaged ports (length w) (length reply) (model_of ports w).rest port requester payload

  abbrev pub answered : MessageTold
  answered = message_answer outcome (model_of ports w).seen

  pub message_tells : length answer ≡ message_length
      → (r ≡ answered.refusal) × (told ≡ words_of answered) × (back ≡ over (outcome.written (model_of ports w).seen) reply)
  message_tells e =
      let S = replied_as ports (length w) (length answer) port (length reply) (model_of ports w).rest requester payload e in
      (rw S at M.number, rw (eq-eqb (length answer) message_length e, S) at M.tells, rw S at M.writes)

  message_given : length answer ≡ message_length → gave r told back ≡ gave answered.refusal (words_of answered) (over (take answered.length back) reply)
  message_given e =
      let t = message_tells e in
      rw (over_taken (outcome.written (model_of ports w).seen) reply back t.2, t.0, t.1)

  pub message_none : (length answer ≡ message_length → ⊥) → IsNone w (CMessage port requester payload reply answer) (gave r told back) w'
  unfolding lent_refusal
  message_none h =
      let S = silent ports (length w) (length answer) port (length reply) (model_of ports w).rest requester payload h in
      let n : r ≡ lent_refusal ports port = rw S at M.number in
      let z : r ≡ 0 → ⊥ = λ z. not_0 ports port (sym n ∙ z) in
      let t : told ≡ answer = rw (ne_eqb (length answer) message_length h) at M.tells in
      let b : back ≡ reply = rw S at M.writes in
      record { unchanged = M.served.refused z; refused = rw (is, n, t, b) }

-- ---- deorasaeng_start
module _ {ports : ℕ} {w w' answer told : List ℕ} {r : ℕ} (S : StartCall ports w w' answer told r) where
  start_starting : length answer ≡ start_length
      → Starting ports w w' (start_answer ports (length w) (model_of ports w)) × (r ≡ (start_answer ports (length w) (model_of ports w)).refusal)
  unfolding refusal
  start_starting e =
      let n : r ≡ start_refusal ports (length w) (model_of ports w).rest.own = S.number ∙ start_number_lem ports (length w) (length answer) (model_of ports w).rest.own e in
      (record { call = called_as n S.served; answer = refl }, n ∙ sym (start_refusal_lem ports (length w) (model_of ports w)))

  start_none : (length answer ≡ start_length → ⊥) → IsNone w (CStart answer) (gave r told []) w'
  start_none h =
      let n : r ≡ 2 = S.number ∙ sym (start_lent ports (length w) (length answer) (model_of ports w).rest.own h) in
      let z : r ≡ 0 → ⊥ = λ z. omega arith in
      let t : told ≡ answer = rw (ne_eqb r 0 z) at S.tells in
      record { unchanged = S.served.refused z; refused = rw (n, t) }

-- ---- deorasaeng_unit
module _ {ports : ℕ} {w answer told : List ℕ} {r : ℕ} (U : UnitCall ports w answer told r) where
  module _ (e : length answer ≡ unit_length) where
    unit_refusal_is : r ≡ length_refusal ports (length w)
    unit_refusal_is = U.number ∙ unit_number_lem ports (length w) (length answer) e

    reading_is : {a : UnitTold} → a ≡ unit_answer ports (length w) (model_of ports w) → Reading ports w a
    unfolding refusal
    reading_is a = record { call = called_as unit_refusal_is U.served; answer = a }

    unit_found : r ≡ 0 → Told (model_of ports w).rest.own ≡ unit_answer ports (length w) (model_of ports w)
    unfolding unit_answer
    unit_found z = rw (← unit_refusal_is, eq-eqb r 0 z)

    unit_refused : (r ≡ 0 → ⊥) → UnitTold.Refused r ≡ unit_answer ports (length w) (model_of ports w)
    unfolding unit_answer
    unit_refused h = rw (← unit_refusal_is, ne_eqb r 0 h)

  unit_none : (length answer ≡ unit_length → ⊥) → IsNone w (CUnit answer) (gave r told []) w
  unit_none h =
      let n : r ≡ 2 = U.number ∙ sym (unit_lent ports (length w) (length answer) h) in
      let z : r ≡ 0 → ⊥ = λ z. omega arith in
      let t : told ≡ answer = rw (ne_eqb r 0 z) at U.tells in
      record { unchanged = refl; refused = rw (n, t) }

-- ---- deorasaeng_counts
module _ {ports : ℕ} {w answer told : List ℕ} {port r : ℕ} (is : ports_of w ≡ ports) (C : CountsCall ports w port answer told r) where
  counts_counting : length answer ≡ counts_length
      → Counting ports w port (counts_answer ports (length w) (model_of ports w) port) × (r ≡ (counts_answer ports (length w) (model_of ports w) port).refusal)
  unfolding refusal
  counts_counting e =
      let n : r ≡ take_refusal ports (length w) port = C.number ∙ counts_number_lem ports (length w) (length answer) port e in
      (record { call = called_as n C.served; answer = refl }, n ∙ sym (counts_refusal ports (length w) (model_of ports w) port))

  counts_none : (length answer ≡ counts_length → ⊥) → IsNone w (CCounts port answer) (gave r told []) w
  unfolding lent_refusal
  counts_none h =
      let n : r ≡ lent_refusal ports port = C.number ∙ sym (counts_lent ports (length w) (length answer) port h) in
      let z : r ≡ 0 → ⊥ = λ z. not_0 ports port (sym n ∙ z) in
      let t : told ≡ answer = rw (ne_eqb r 0 z) at C.tells in
      record { unchanged = refl; refused = rw (is, n, t) }

-- ---- deorasaeng_take_queue
take_in : (ports lent port : ℕ) → lent ≡ record_length ports → is_port ports port ≡ true → take_refusal ports lent port ≡ 0
unfolding take_refusal
take_in ports lent port e p = rw (p, eq-eqb lent (record_length ports) e)

-- a block that came back as it was
pub put_back : (w : List ℕ) (port : ℕ) → with_block w port (block_of w port) ≡ w
put_back w port = rw (take-append-drop block_length (drop (queue_at port) w)) (take-append-drop (queue_at port) w)

module _ (ports : ℕ) (w : List ℕ) (port : ℕ) {answer bytes block told written : List ℕ} {r : ℕ} (Q : QueueCall (block_of w port) block answer told bytes written r) where
  module _ (full : length w ≡ record_length ports) (p : is_port ports port ≡ true) (e : length answer ≡ take_length) (e' : length bytes ≡ bytes_length) where
    queue_done : r ≡ 0
    queue_done = Q.number ∙ queue_number_lem (length answer) (length bytes) e e'

    block_long : length (block_of w port) ≡ block_length
    block_long =
        let b = port_bounds ports port p in
        simp (length-take, length-drop) (omega (arith, b.0, b.1))

    queue_row : RowTaking ports w (with_block w port block) (port - 1) (taken_from (block_of w port))
    queue_row =
        let b = port_bounds ports port p in
        row_taken w (port - 1) (omega (arith, b.0, b.1, full)) ports (omega (arith, b.0, b.1)) block ((Q.done queue_done).long ∙ block_long) (taken_from (block_of w port)) (Q.done queue_done)

    queue_taking : TakingOut ports w (with_block w port block) port (Took (taken_from (block_of w port)))
    queue_taking =
        let b = port_bounds ports port p in
        taken (sym (take_in ports (length w) port full p))
        (length_back (rows_from + block_length * (port - 1)) block_length w block ((Q.done queue_done).long ∙ block_long) (omega (arith, b.0, b.1, full)))
        refl queue_row

    queue_given : gave r told written ≡ gave 0 (take_words (taken_from (block_of w port))) (bytes_of_taken (taken_from (block_of w port)) bytes)
    queue_given = rw (Q.tells, Q.writes, queue_done)

  queue_none : r ≡ 2 → IsNone w (CTakeQueue port answer bytes) (gave r told written) (with_block w port block)
  queue_none n =
      let z : r ≡ 0 → ⊥ = λ z. omega arith in
      let t : told ≡ answer = rw (ne_eqb r 0 z) at Q.tells in
      let b : written ≡ bytes = rw (ne_eqb r 0 z) at Q.writes in
      record { unchanged = rw (Q.refused z) (put_back w port); refused = rw (n, t, b) }

-- ---- the words
event_is : (e : Event) → event_number e ≡ event_word e
event_is Nothing = refl
event_is Withdrew = refl
event_is Defended = refl
event_is Displaced = refl
event_is Recorded = refl
event_is Refreshed = refl
event_is (TookOver old) = refl
event_is Beaten = refl

old_name_is : (e : Event) → old_name e ≡ old_name_word e
old_name_is Nothing = refl
old_name_is Withdrew = refl
old_name_is Defended = refl
old_name_is Displaced = refl
old_name_is Recorded = refl
old_name_is Refreshed = refl
old_name_is (TookOver old) = refl
old_name_is Beaten = refl

state_is : (c : Claim) → claim_word c ≡ state_word c
state_is Unstarted = refl
state_is Claiming = refl
state_is Claimed = refl
state_is Lost = refl

-- ---- every exported function
either : (a b : Bool) → (a && b) ≡ false → (a ≡ false) ⊎ (b ≡ false)
either true b e = inr e
either false b e = inl refl

pub is_call : {w w' : List ℕ} {c : Exported} {g : Gave} → length w ≡ record_length (ports_of w) → Made w c g w' → lends c ≡ true → IsCall w c g w'
is_call full (frame_made (arrived κs w w' b b' a a' port id r f)) l =
    let F = f tt in
    let e = eqb-true (length a.now) 8 l in
    let P = frame_framing refl F e in
    record {
      answer = ToFrame (frame_answer (ports_of w.now) (length w.now) (model_of (ports_of w.now) w.now) port id b.now);
      made = demand_3.frame_made (made.arrived w.now w'.now b.now port id _ P.0);
      tells = of_frame {port = port} {id = id} {bytes = b.now} {answer = a.now} {g = gave r a'.now []} (frame_answer (ports_of w.now) (length w.now) (model_of (ports_of w.now) w.now) port id b.now) (rw (F.tells, P.1, event_is _, old_name_is _));
    }
is_call full (take_made (took_out κs w w' a a' b b' port r f)) l =
    let T = f tt in
    let two = both (eqb (length a.now) 3) (eqb (length b.now) 8) l in
    let e = eqb-true (length a.now) 3 two.0 in
    let e' = eqb-true (length b.now) 8 two.1 in
    elim (ℕ_discrete r 0) [
      | yes z ↦ record {
        answer = ToTake (Took (found refl T e e'));
        made = demand_3.take_made (made.took w.now w'.now port _ (taking_is refl T e e' (sym (answer_found refl T e e' z))));
        tells = found_tells refl T e e' z;
      }
      | no h ↦ record {
        answer = ToTake (TakeTold.Refused r);
        made = demand_3.take_made (made.took w.now w'.now port _ (taking_is refl T e e' (sym (answer_refused refl T e e' h))));
        tells = refused_tells refl T e e' h;
      }
    ]
is_call full (message_made (handed κs w w' p p' b b' a a' port requester r f)) l =
    let M = f tt in
    let e = eqb-true (length a.now) 5 l in
    record {
      answer = ToMessage (answered refl M) (take (answered refl M).length b'.now);
      made = demand_3.message_made (made.handed w.now w'.now p.now b.now b'.now port requester (answered refl M) (M.called e));
      tells = of_message {port = port} {requester = requester} {payload = p.now} {reply = b.now} {answer = a.now} {g = gave r a'.now b'.now} (answered refl M) (take (answered refl M).length b'.now) (message_given refl M e);
    }
is_call full (start_made (started κs w w' a a' r f)) l =
    let S = f tt in
    let e = eqb-true (length a.now) 2 l in
    let P = start_starting S e in
    record {
      answer = ToStart (start_answer (ports_of w.now) (length w.now) (model_of (ports_of w.now) w.now));
      made = demand_3.start_made (made.started w.now w'.now _ P.0);
      tells = of_start {answer = a.now} {g = gave r a'.now []} (start_answer (ports_of w.now) (length w.now) (model_of (ports_of w.now) w.now)) (rw (S.tells, P.1, state_is _));
    }
is_call full (quiet_made (quieted κs w w' r f)) l =
    record { answer = ToQuiet r; made = demand_3.quiet_made (made.quieted w.now w'.now r (f tt)); tells = of_quiet {g = gave r [] []} r refl }
is_call full (unit_made (told_unit κs w w' a a' r f)) l =
    let U = f tt in
    let e = eqb-true (length a.now) 5 l in
    elim (ℕ_discrete r 0) [
      | yes z ↦ record {
        answer = ToUnit (Told (model_of (ports_of w.now) w.now).rest.own);
        made = demand_3.unit_made (made.told w.now _ (reading_is U e (unit_found U e z)));
        tells = of_unit_lem {answer = a.now} {g = gave r a'.now []} (model_of (ports_of w.now) w.now).rest.own (rw (U.tells, z, state_is (model_of (ports_of w.now) w.now).rest.own.claim));
      }
      | no h ↦ record {
        answer = ToUnit (UnitTold.Refused r);
        made = demand_3.unit_made (made.told w.now _ (reading_is U e (unit_refused U e h)));
        tells = of_refused_unit {answer = a.now} {g = gave r a'.now []} r h (rw (U.tells, ne_eqb r 0 h));
      }
    ]
is_call full (counts_made (told_counts κs w w' a a' port r f)) l =
    let C = f tt in
    let e = eqb-true (length a.now) 10 l in
    let P = counts_counting refl C e in
    record {
      answer = ToCounts (counts_answer (ports_of w.now) (length w.now) (model_of (ports_of w.now) w.now) port);
      made = demand_3.counts_made (made.counted w.now port _ P.0);
      tells = of_counts {port = port} {answer = a.now} {g = gave r a'.now []} (counts_answer (ports_of w.now) (length w.now) (model_of (ports_of w.now) w.now) port) (rw (C.tells, P.1));
    }
is_call full (queue_made (took_queue κs w w' port answer bytes r block told written p Q is)) l =
    let two = both (eqb (length answer) 3) (eqb (length bytes) 8) l in
    let e = eqb-true (length answer) 3 two.0 in
    let e' = eqb-true (length bytes) 8 two.1 in
    record {
      answer = ToTake (Took (taken_from (block_of w.now port)));
      made = demand_3.take_made (made.took w.now w'.now port (Took (taken_from (block_of w.now port))) (rw is (queue_taking (ports_of w.now) w.now port Q full p e e')));
      tells = of_queue {port = port} {answer = answer} {bytes = bytes} {g = gave r told written} (taken_from (block_of w.now port)) (queue_given (ports_of w.now) w.now port Q full p e e');
    }

pub is_none : {w w' : List ℕ} {c : Exported} {g : Gave} → Made w c g w' → lends c ≡ false → IsNone w c g w'
is_none (frame_made (arrived κs w w' b b' a a' port id r f)) l = frame_none refl (f tt) (eqb-false (length a.now) 8 l)
is_none (take_made (took_out κs w w' a a' b b' port r f)) l =
    let T = f tt in
    ⊎_elim
    (λ h. take_none refl T (T.number ∙ sym (take_lent (ports_of w.now) (length w.now) (length a.now) port (length b.now) (eqb-false (length a.now) 3 h))))
    (λ h. take_none refl T (T.number ∙ sym (take_lent_bytes (ports_of w.now) (length w.now) (length a.now) port (length b.now) (eqb-false (length b.now) 8 h))))
    (either (eqb (length a.now) 3) (eqb (length b.now) 8) l)
is_none (message_made (handed κs w w' p p' b b' a a' port requester r f)) l = message_none refl (f tt) (eqb-false (length a.now) 5 l)
is_none (start_made (started κs w w' a a' r f)) l = start_none (f tt) (eqb-false (length a.now) 2 l)
is_none (quiet_made h) l = absurd (true≢false l)
is_none (unit_made (told_unit κs w w' a a' r f)) l = unit_none (f tt) (eqb-false (length a.now) 5 l)
is_none (counts_made (told_counts κs w w' a a' port r f)) l = counts_none refl (f tt) (eqb-false (length a.now) 10 l)
is_none (queue_made (took_queue κs w w' port answer bytes r block told written p Q is)) l =
    let wrong : r ≡ 2 =
    ⊎_elim
    (λ h. Q.number ∙ sym (queue_lent (length answer) (length bytes) (eqb-false (length answer) 3 h)))
    (λ h. Q.number ∙ sym (queue_lent_bytes (length answer) (length bytes) (eqb-false (length bytes) 8 h)))
    (either (eqb (length answer) 3) (eqb (length bytes) 8) l) in
    rw is (queue_none (ports_of w.now) w.now port Q wrong)
