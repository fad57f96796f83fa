-- Each call that was made is told of a result: its number is one of its table (`demand_1`), so a refusal's or 0; refused, nothing else is told. Assumes nothing.
use mathlib.Core.Path.{◌≡◌, refl, sym, ap, subst, ◌∙◌}
use mathlib.Core.Bool.{Bool, true, false, cond}
use mathlib.Core.List.{List}
use Prim.Native.Nat.{ℕ, ◌-◌}
use borrow.Author.Tests.{eqb-true, eqb-false}
use lib.Dec.{eqb}
use lib.ListN.{length}
use Rattle.std.specs.Prelude.{Option, Result, Ok, Err, ⊤}
use Rattle.checks.specs.declared.refusal.Refusal.{Refusal}
use Rattle.checks.specs.Refusals.{number, number_in}
use Rattle.queue.specs.declared.Frame.{Frame}
use Rattle.queue.specs.Queue.{priority}
use Rattle.delivery.specs.Row.{pull, given}
use Rattle.unit.specs.declared.Unit.{Unit}
use Rattle.unit.specs.Count.{ports_of}
use Rattle.unit.specs.Model.{row_at, model_of}
use Rattle.refusals.specs.Refusals.{take_refusal, length_refusal}
use Rattle.list_commands.specs.declared.Absent.{Absent}
use Rattle.message_answers.specs.declared.Denied.{Denied}
use Rattle.message_answers.specs.Messages.{MessageTold, nothing_told}
use Rattle.message_answers.specs.Answers.{outcome_number, outcome_told, message_told}
use Rattle.bridge.specs.Told.{FrameTold, frame_refused, frame_told, TakeTold, take_told, StartTold, start_refused, start_told, UnitTold, unit_told, CountsTold, counts_refused, counts_told}
use Rattle.bridge.specs.Calls.{take_answer, unit_answer, Framing, TakingOut, Messaging, Starting, Quieting, Reading, Counting}
use Rattle.unit.specs.PowerOn.{PoweringOn}
use Rattle.made.specs.Made.{Powered, Arrived, Took, Handed, Started, Quieted, Told, Counted}
use Rattle.made.proofs.Made.{powering, framing, taking, messaging, starting, quieting, reading, counting}
use Rattle.demand_1.specs.Demand1.{power_on_numbers, frame_numbers, take_numbers, start_numbers, quiet_numbers, unit_numbers, counts_numbers, message_numbers, rest_of, Tells}
use Rattle.demand_1.proofs.Numbers.{exact}
use Rattle.demand_1.proofs.Demand1.{demand_1}
use Rattle.assurance.specs.Answered.{Of, Answered}
use Rattle.assurance.proofs.Numbers.{number_not_0, is_number, refusal_of, Numbered, numbered}

-- ---- a result that something is told of
record ToldOf {R T : Type 0} (told : R → T) (t : T) : Type 0 where
  result : R
  is : t ≡ told result

-- and what is said of what was told holds of it
of : {R T : Type 0} {told : R → T} (P : T → Type 0) {t : T} → P t → ToldOf told t → Of told t (λ r. P (told r))
of P p s = record { result = s.result; is = s.is; holds = subst P s.is p }

-- ---- by the number: it is 0, or a refusal's
by_number : {A : Type 0} (n : ℕ) → Numbered n → (n ≡ 0 → A) → ((n ≡ 0 → ⊥) → (refusal : Refusal) → n ≡ number refusal → A) → A
by_number {A = A} n N done refused = go N.result N.is
  where
    go : (r : Result ⊤ Refusal) → n ≡ number_in r → A
    go (Ok a) e = done e
    go (Err refusal) e = refused (λ z. number_not_0 refusal (sym e ∙ z)) refusal e

number_some : (n : ℕ) → Numbered n → ToldOf (number_in {T = ⊤}) n
number_some n N = record { result = N.result; is = N.is }

power_on_some : {words after : List ℕ} {name preferred count t : ℕ} → Powered words name preferred count t after → ToldOf (number_in {T = ⊤}) t
unfolding is_number refusal_of
power_on_some {words = words} {count = count} {t = t} m = number_some t (numbered (power_on_numbers count (length words)) t refl (demand_1.power_on m).0)

quiet_some : {words after : List ℕ} {t : ℕ} → Quieted words t after → ToldOf (number_in {T = ⊤}) t
unfolding is_number refusal_of
quiet_some {words = words} {t = t} m = number_some t (numbered (quiet_numbers (ports_of words) (length words) (rest_of words)) t refl (demand_1.quiet m).0)

frame_some : {words bytes after : List ℕ} {port id : ℕ} {t : FrameTold} → Arrived words port id bytes t after → ToldOf frame_told t
unfolding is_number refusal_of
frame_some {words = words} {bytes = bytes} {port = port} {id = id} {t = t} m =
    let D = demand_1.frame m in
    by_number t.refusal (numbered (frame_numbers (ports_of words) (length words) port id (length bytes)) t.refusal refl D.0)
    (λ z. record {
      result = Ok (record { consumed = t.consumed; accepted = t.accepted; lost = t.lost; event = t.event; unsent = t.unsent; compared = t.compared; reasons = t.reasons });
      is = ap (λ n. record { refusal = n; consumed = t.consumed; accepted = t.accepted; lost = t.lost; event = t.event; unsent = t.unsent; compared = t.compared; reasons = t.reasons }) z;
    })
    (λ z refusal e. record { result = Err refusal; is = D.2 z ∙ ap frame_refused e })

start_some : {words after : List ℕ} {t : StartTold} → Started words t after → ToldOf start_told t
unfolding is_number refusal_of
start_some {words = words} {t = t} m =
    let D = demand_1.start m in
    by_number t.refusal (numbered (start_numbers (ports_of words) (length words) (rest_of words)) t.refusal refl D.0)
    (λ z. record { result = Ok (record { unsent = t.unsent; claim = t.claim }); is = ap (λ n. record { refusal = n; unsent = t.unsent; claim = t.claim }) z })
    (λ z refusal e. record { result = Err refusal; is = D.2 z ∙ ap start_refused e })

counts_some : {words : List ℕ} {port : ℕ} {t : CountsTold} → Counted words port t → ToldOf counts_told t
unfolding is_number refusal_of
counts_some {words = words} {port = port} {t = t} m =
    let D = demand_1.counts m in
    by_number t.refusal (numbered (counts_numbers (ports_of words) (length words) port) t.refusal refl D.0)
    (λ z. record { result = Ok t.tally; is = ap (λ n. record { refusal = n; tally = t.tally }) z })
    (λ z refusal e. record { result = Err refusal; is = D.1 z ∙ ap counts_refused e })

-- what a take is told of, refused with n or not
take_told_by : (n : ℕ) (taken : Option Frame) {t : TakeTold} → Numbered n → t ≡ cond (eqb n 0) (TakeTold.Took taken) (TakeTold.Refused n) → ToldOf take_told t
take_told_by n taken {t = t} N a = go (eqb n 0) refl a
  where
    go : (b : Bool) → eqb n 0 ≡ b → t ≡ cond b (TakeTold.Took taken) (TakeTold.Refused n) → ToldOf take_told t
    go true e a = record { result = Ok taken; is = a }
    go false e a = by_number n N (λ z. absurd (eqb-false n 0 e z)) (λ _ refusal i. record { result = Err refusal; is = a ∙ ap TakeTold.Refused i })

take_some : {words after : List ℕ} {port : ℕ} {t : TakeTold} → Took words port t after → ToldOf take_told t
unfolding take_answer take_refusal is_number refusal_of
take_some {words = words} {port = port} m =
    let table = take_numbers (ports_of words) (length words) port in
    take_told_by (take_refusal (ports_of words) (length words) port) (given (pull priority (row_at (model_of (ports_of words) words) (port - 1))))
    (numbered table (take_refusal (ports_of words) (length words) port) refl (exact table refl)) (taking m).answer

unit_told_by : (n : ℕ) (own : Unit) {t : UnitTold} → Numbered n → t ≡ cond (eqb n 0) (UnitTold.Told own) (UnitTold.Refused n) → ToldOf unit_told t
unit_told_by n own {t = t} N a = go (eqb n 0) refl a
  where
    go : (b : Bool) → eqb n 0 ≡ b → t ≡ cond b (UnitTold.Told own) (UnitTold.Refused n) → ToldOf unit_told t
    go true e a = record { result = Ok own; is = a }
    go false e a = by_number n N (λ z. absurd (eqb-false n 0 e z)) (λ _ refusal i. record { result = Err refusal; is = a ∙ ap UnitTold.Refused i })

unit_some : {words : List ℕ} {t : UnitTold} → Told words t → ToldOf unit_told t
unfolding unit_answer length_refusal is_number refusal_of
unit_some {words = words} m =
    let table = unit_numbers (ports_of words) (length words) in
    unit_told_by (length_refusal (ports_of words) (length words)) (rest_of words).own
    (numbered table (length_refusal (ports_of words) (length words)) refl (exact table refl)) (reading m).answer

-- ---- a message
record Outcome (n : ℕ) (told : Absent) : Type 0 where
  result : Result ⊤ Denied
  number_is : n ≡ outcome_number result
  told_is : told ≡ outcome_told result

-- 22 has an entry, 17 a place, any other number neither
outcome : (n : ℕ) (told : Absent) → Numbered n → (n ≡ 22 → (told.to ≡ 0) × (told.pgn ≡ 0)) → ((n ≡ 22 → ⊥) → (n ≡ 17 → ⊥) → told ≡ nothing_told) → Outcome n told
outcome n told N wrong nothing = go (eqb n 22) (eqb n 17) refl refl
  where
    go : (a b : Bool) → eqb n 22 ≡ a → eqb n 17 ≡ b → Outcome n told
    go true b e f =
        let w = wrong (eqb-true n 22 e) in
        record {
          result = Err (Denied.WrongEntry told.entry);
          number_is = eqb-true n 22 e;
          told_is = ap (λ to. record { entry = told.entry; to = to; pgn = told.pgn }) w.0 ∙ ap (λ pgn. record { entry = told.entry; to = 0; pgn = pgn }) w.1;
        }
    go false true e f = record { result = Err (Denied.Absent told); number_is = eqb-true n 17 f; told_is = refl }
    go false false e f =
        let u = nothing (eqb-false n 22 e) (eqb-false n 17 f) in
        by_number n N
        (λ z. record { result = Ok tt; number_is = z; told_is = u })
        (λ _ refusal i. record { result = Err (Denied.Refused refusal); number_is = i; told_is = u })

message_some : {words payload lent after back : List ℕ} {port requester : ℕ} {t : MessageTold} → Handed words port requester payload lent t after back → ToldOf message_told t
unfolding is_number refusal_of
message_some {words = words} {payload = payload} {lent = lent} {port = port} {requester = requester} {t = t} m =
    let D = demand_1.message m in
    let T : Tells words payload t = D.3 in
    let O =
    outcome t.refusal t.told
    (numbered (message_numbers (ports_of words) (length words) (length lent) (rest_of words) port requester payload) t.refusal refl D.0)
    (λ e. let F = T.wrong e in (F.to, F.pgn))
    T.nothing in
    record {
      result = record { outcome = O.result; pgn = t.pgn; length = t.length };
      is =
          ap (λ n. record { refusal = n; pgn = t.pgn; length = t.length; told = t.told }) O.number_is
          ∙ ap (λ u. record { refusal = outcome_number O.result; pgn = t.pgn; length = t.length; told = u }) O.told_is;
    }

-- ---- the whole: what is known of what was told is the contract of its result, by computing
pub answered : Answered
answered = record {
  powered = λ κs w w' name preferred count t m _. of (PoweringOn count w.now w'.now name preferred) (powering m) (power_on_some m);
  arrived = λ κs w w' b b' port id t m _. of (Framing (ports_of w.now) w.now w'.now port id b.now) (framing m) (frame_some m);
  took = λ κs w w' port t m _. of (TakingOut (ports_of w.now) w.now w'.now port) (taking m) (take_some m);
  handed = λ κs w w' p p' b b' port requester t m _. of (Messaging (ports_of w.now) w.now w'.now port requester p.now b.now b'.now) (messaging m) (message_some m);
  started = λ κs w w' t m _. of (Starting (ports_of w.now) w.now w'.now) (starting m) (start_some m);
  quieted = λ κs w w' t m _. of (Quieting (ports_of w.now) w.now w'.now) (quieting m) (quiet_some m);
  told = λ κs w w' t m _. of (Reading (ports_of w.now) w.now) (reading m) (unit_some m);
  counted = λ κs w w' port t m _. of (Counting (ports_of w.now) w.now port) (counting m) (counts_some m);
}
