-- Each told answer is of one result: what the result has stands in what is told of it. Assumes nothing.
use mathlib.Core.Path.{◌≡◌, refl, sym, ap, ◌∙◌}
use mathlib.Core.List.{List}
use Prim.Native.Nat.{ℕ, ◌≤◌}
use native.Mathlib.Omega.{arith}
use Rattle.std.specs.Prelude.{Option, Result, Ok, Err, ⊤}
use Rattle.checks.specs.declared.refusal.Refusal.{Refusal}
use Rattle.checks.specs.Refusals.{number_in}
use Rattle.queue.specs.declared.Frame.{Frame}
use Rattle.queue.specs.declared.Tally.{Tally}
use Rattle.unit.specs.declared.Unit.{Unit}
use Rattle.list_commands.specs.declared.Absent.{Absent}
use Rattle.message_answers.specs.declared.Denied.{Denied}
use Rattle.message_answers.specs.declared.MessageAnswer.{MessageAnswer}
use Rattle.message_answers.specs.Messages.{MessageTold, nothing_told}
use Rattle.message_answers.specs.Answers.{denied_number, denied_told, outcome_number, outcome_told, message_told}
use Rattle.bridge.specs.declared.FrameAnswer.{FrameAnswer}
use Rattle.bridge.specs.declared.Started.{Started as StartAnswer}
use Rattle.bridge.specs.Told.{FrameTold, frame_told, take_told, take_number, gave, StartTold, start_told, UnitTold, unit_told, read_number, CountsTold, counts_told}
use Rattle.made.specs.Made.{Handed}
use Rattle.demand_1.proofs.Demand1.{demand_1}
use Rattle.assurance.specs.Fixed.{NamesEntry, IsPlain, Fixed}
use Rattle.assurance.proofs.Numbers.{number_fixed, number_not_0}

done_fixed : (a b : Result ⊤ Refusal) → number_in a ≡ number_in b → a ≡ b
done_fixed (Ok a) (Ok b) e = refl
done_fixed (Ok a) (Err s) e = absurd (number_not_0 s (sym e))
done_fixed (Err r) (Ok b) e = absurd (number_not_0 r e)
done_fixed (Err r) (Err s) e = ap Err (number_fixed r s e)

frame_fixed : (a b : Result FrameAnswer Refusal) → frame_told a ≡ frame_told b → a ≡ b
frame_fixed (Ok a) (Ok b) e =
    ap (λ (t : FrameTold). Ok (record { consumed = t.consumed; accepted = t.accepted; lost = t.lost; event = t.event; unsent = t.unsent; compared = t.compared; reasons = t.reasons })) e
frame_fixed (Ok a) (Err s) e = absurd (number_not_0 s (sym (ap (λ (t : FrameTold). t.refusal) e)))
frame_fixed (Err r) (Ok b) e = absurd (number_not_0 r (ap (λ (t : FrameTold). t.refusal) e))
frame_fixed (Err r) (Err s) e = ap Err (number_fixed r s (ap (λ (t : FrameTold). t.refusal) e))

take_fixed : (a b : Result (Option Frame) Refusal) → take_told a ≡ take_told b → a ≡ b
take_fixed (Ok a) (Ok b) e = ap (λ t. Ok (gave t)) e
take_fixed (Ok a) (Err s) e = absurd (number_not_0 s (sym (ap take_number e)))
take_fixed (Err r) (Ok b) e = absurd (number_not_0 r (ap take_number e))
take_fixed (Err r) (Err s) e = ap Err (number_fixed r s (ap take_number e))

start_fixed : (a b : Result StartAnswer Refusal) → start_told a ≡ start_told b → a ≡ b
start_fixed (Ok a) (Ok b) e = ap (λ (t : StartTold). Ok (record { unsent = t.unsent; claim = t.claim })) e
start_fixed (Ok a) (Err s) e = absurd (number_not_0 s (sym (ap (λ (t : StartTold). t.refusal) e)))
start_fixed (Err r) (Ok b) e = absurd (number_not_0 r (ap (λ (t : StartTold). t.refusal) e))
start_fixed (Err r) (Err s) e = ap Err (number_fixed r s (ap (λ (t : StartTold). t.refusal) e))

-- what is told of a unit, or another
abbrev own_of : Unit → UnitTold → Unit
own_of other (UnitTold.Refused n) = other
own_of other (UnitTold.Told own) = own

unit_fixed : (a b : Result Unit Refusal) → unit_told a ≡ unit_told b → a ≡ b
unit_fixed (Ok a) (Ok b) e = ap (λ t. Ok (own_of a t)) e
unit_fixed (Ok a) (Err s) e = absurd (number_not_0 s (sym (ap read_number e)))
unit_fixed (Err r) (Ok b) e = absurd (number_not_0 r (ap read_number e))
unit_fixed (Err r) (Err s) e = ap Err (number_fixed r s (ap read_number e))

counts_fixed : (a b : Result Tally Refusal) → counts_told a ≡ counts_told b → a ≡ b
counts_fixed (Ok a) (Ok b) e = ap (λ (t : CountsTold). Ok t.tally) e
counts_fixed (Ok a) (Err s) e = absurd (number_not_0 s (sym (ap (λ (t : CountsTold). t.refusal) e)))
counts_fixed (Err r) (Ok b) e = absurd (number_not_0 r (ap (λ (t : CountsTold). t.refusal) e))
counts_fixed (Err r) (Err s) e = ap Err (number_fixed r s (ap (λ (t : CountsTold). t.refusal) e))

-- ---- a message
denied_not_0 : (d : Denied) → denied_number d ≡ 0 → ⊥
denied_not_0 (Denied.WrongEntry entry) e = omega (arith, e)
denied_not_0 (Denied.Absent absent) e = omega (arith, e)
denied_not_0 (Denied.Refused r) e = number_not_0 r e

-- where a 17 and a 22 name an entry
denied_fixed : (a b : Denied) → denied_number a ≡ denied_number b → denied_told a ≡ denied_told b
    → (denied_told a ≡ nothing_told → (denied_number a ≡ 17 → ⊥) × (denied_number a ≡ 22 → ⊥)) → a ≡ b
denied_fixed (Denied.WrongEntry x) (Denied.WrongEntry y) e t n = ap (λ (u : Absent). Denied.WrongEntry u.entry) t
denied_fixed (Denied.WrongEntry x) (Denied.Absent v) e t n = absurd (omega (arith, e))
denied_fixed (Denied.WrongEntry x) (Denied.Refused s) e t n = absurd ((n t).1 refl)
denied_fixed (Denied.Absent u) (Denied.WrongEntry y) e t n = absurd (omega (arith, e))
denied_fixed (Denied.Absent u) (Denied.Absent v) e t n = ap Denied.Absent t
denied_fixed (Denied.Absent u) (Denied.Refused s) e t n = absurd ((n t).0 refl)
denied_fixed (Denied.Refused r) (Denied.WrongEntry y) e t n = absurd ((n refl).1 e)
denied_fixed (Denied.Refused r) (Denied.Absent v) e t n = absurd ((n refl).0 e)
denied_fixed (Denied.Refused r) (Denied.Refused s) e t n = ap Denied.Refused (number_fixed r s e)

outcome_fixed : (a b : Result ⊤ Denied) → outcome_number a ≡ outcome_number b → outcome_told a ≡ outcome_told b
    → (outcome_told a ≡ nothing_told → (outcome_number a ≡ 17 → ⊥) × (outcome_number a ≡ 22 → ⊥)) → a ≡ b
outcome_fixed (Ok a) (Ok b) e t n = refl
outcome_fixed (Ok a) (Err d) e t n = absurd (denied_not_0 d (sym e))
outcome_fixed (Err d) (Ok b) e t n = absurd (denied_not_0 d e)
outcome_fixed (Err c) (Err d) e t n = ap Err (denied_fixed c d e t n)

-- where neither is one of the two that are told without an entry
plain_fixed : (a b : Result ⊤ Denied) → outcome_number a ≡ outcome_number b → outcome_told a ≡ outcome_told b → IsPlain a → IsPlain b → a ≡ b
plain_fixed (Ok a) (Ok b) e t p q = refl
plain_fixed (Ok a) (Err d) e t p q = absurd (denied_not_0 d (sym e))
plain_fixed (Err d) (Ok b) e t p q = absurd (denied_not_0 d e)
plain_fixed (Err (Denied.WrongEntry x)) (Err (Denied.WrongEntry y)) e t p q = ap (λ (u : Absent). Err (Denied.WrongEntry u.entry)) t
plain_fixed (Err (Denied.WrongEntry x)) (Err (Denied.Absent v)) e t p q = absurd (omega (arith, e))
plain_fixed (Err (Denied.WrongEntry x)) (Err (Denied.Refused s)) e t p q = absurd (q.1 (ap (λ r. Err (Denied.Refused r)) (number_fixed s Refusal.WrongEntry (sym e))))
plain_fixed (Err (Denied.Absent u)) (Err (Denied.WrongEntry y)) e t p q = absurd (omega (arith, e))
plain_fixed (Err (Denied.Absent u)) (Err (Denied.Absent v)) e t p q = ap (λ w. Err (Denied.Absent w)) t
plain_fixed (Err (Denied.Absent u)) (Err (Denied.Refused s)) e t p q = absurd (q.0 (ap (λ r. Err (Denied.Refused r)) (number_fixed s Refusal.Absent (sym e))))
plain_fixed (Err (Denied.Refused r)) (Err (Denied.WrongEntry y)) e t p q = absurd (p.1 (ap (λ r. Err (Denied.Refused r)) (number_fixed r Refusal.WrongEntry e)))
plain_fixed (Err (Denied.Refused r)) (Err (Denied.Absent v)) e t p q = absurd (p.0 (ap (λ r. Err (Denied.Refused r)) (number_fixed r Refusal.Absent e)))
plain_fixed (Err (Denied.Refused r)) (Err (Denied.Refused s)) e t p q = ap (λ r. Err (Denied.Refused r)) (number_fixed r s e)

-- an outcome makes an answer
answer_fixed : (a b : MessageAnswer) → message_told a ≡ message_told b → a.outcome ≡ b.outcome → a ≡ b
answer_fixed a b e o =
    ap (λ o. record { outcome = o; pgn = a.pgn; length = a.length }) o
    ∙ ap (λ (t : MessageTold). record { outcome = b.outcome; pgn = t.pgn; length = t.length }) e

message_plain : (a b : MessageAnswer) → message_told a ≡ message_told b → IsPlain a.outcome → IsPlain b.outcome → a ≡ b
message_plain a b e p q = answer_fixed a b e (plain_fixed a.outcome b.outcome (ap (λ (t : MessageTold). t.refusal) e) (ap (λ (t : MessageTold). t.told) e) p q)

message_fixed : (a b : MessageAnswer) → message_told a ≡ message_told b → NamesEntry (message_told a) → a ≡ b
message_fixed a b e n = answer_fixed a b e (outcome_fixed a.outcome b.outcome (ap (λ (t : MessageTold). t.refusal) e) (ap (λ (t : MessageTold). t.told) e) n)

-- entries are counted from 1
entry_named : {told : Absent} → 1 ≤ told.entry → told ≡ nothing_told → ⊥
entry_named least e = let z = ap (λ (u : Absent). u.entry) e in omega (arith, least, z)

message_named : {words payload lent after back : List ℕ} {port requester : ℕ} {t : MessageTold} → Handed words port requester payload lent t after back → NamesEntry t
message_named {t = t} h e =
    let T = (demand_1.message h).3 in
    (λ n. entry_named (T.absent n).least e, λ n. entry_named (T.wrong n).least e)

pub fixed : Fixed
fixed = record {
  refusal = number_fixed;
  refused = number_not_0;
  done = done_fixed;
  frame = frame_fixed;
  take = take_fixed;
  start = start_fixed;
  unit = unit_fixed;
  counts = counts_fixed;
  plain = message_plain;
  message = message_fixed;
  named = message_named;
}
