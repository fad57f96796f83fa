-- Each number is the first of its function's checks, and what a refusal leaves is in the contract. Assumes nothing.
use mathlib.Core.Path.{◌≡◌, refl, ◌∙◌}
use mathlib.Core.Bool.{Bool, true, false, ◌||◌}
use mathlib.Core.List.{List}
use Prim.Native.Nat.{ℕ}
use native.Mathlib.Decide.{ℕ_discrete}
use borrow.Author.Tests.{eq-eqb, ne_eqb}
use lib.Dec.{ltb}
use lib.ListN.{length}
use Rattle.checks.specs.Checks.{first}
use Rattle.network_message.specs.Decoding.{longest}
use Rattle.unit.specs.Count.{ports_of}
use Rattle.unit.specs.Model.{model_of}
use Rattle.unit.specs.PowerOn.{not_long}
use Rattle.refusals.specs.Refusals.{quiet_refusal}
use Rattle.bridge.specs.Calls.{refusal}
use Rattle.deorasaeng.specs.Interface.{lent_refusal, message_length, frame_number, take_number, start_number, unit_number, counts_number, queue_number, MessageCall}
use Rattle.deorasaeng.proofs.Numbers.{silent, replied_as}
use Rattle.demand_1.specs.Demand1.{Exact}
use Rattle.demand_1.proofs.Numbers.{exact, message_number_lem}
use Rattle.c_demands.specs.Exported.{arrived, handed, started, quieted, told_unit, told_counts, took_queue}
use Rattle.c_demands.specs.Exported.{took as took_out}
use Rattle.c_demands.specs.CDemands.{Exported, CFrame, CTake, CMessage, CStart, CQuiet, CUnit, CCounts, CTakeQueue, Gave, Made, frame_made, take_made, message_made, start_made, quiet_made, unit_made, counts_made, queue_made, numbers}
use Rattle.c_demands.proofs.Calls.{put_back}

-- an answer of its length has no say among the checks of 2, another is one of them
or_false : (a : Bool) → a || false ≡ a
or_false true = refl
or_false false = refl

or_true : (a : Bool) → a || true ≡ true
or_true true = refl
or_true false = refl

message_first : {w w' payload reply back answer told : List ℕ} {port requester r : ℕ} → MessageCall (ports_of w) w w' port requester payload reply back answer told r
    → r ≡ first (numbers w (CMessage port requester payload reply answer))
unfolding lent_refusal
message_first {w} {w'} {payload} {reply} {back} {answer} {told} {port} {requester} {r} M =
    elim (ℕ_discrete (length answer) message_length) [
      | yes e ↦
          M.number
          ∙ rw (replied_as (ports_of w) (length w) (length answer) port (length reply) (model_of (ports_of w) w).rest requester payload e, eq-eqb (length answer) message_length e, or_false (not_long (ports_of w) (length w) || ltb (length reply) longest))
          (message_number_lem (ports_of w) (model_of (ports_of w) w).rest requester payload (length w) (length reply) port)
      | no h ↦
          M.number
          ∙ rw (silent (ports_of w) (length w) (length answer) port (length reply) (model_of (ports_of w) w).rest requester payload h, ne_eqb (length answer) message_length h, or_true (not_long (ports_of w) (length w) || ltb (length reply) longest))
    ]

pub exact_number : {w w' : List ℕ} {c : Exported} {g : Gave} → Made w c g w' → Exact (numbers w c) g.number × ((g.number ≡ 0 → ⊥) → w' ≡ w)
unfolding frame_number take_number start_number unit_number counts_number queue_number quiet_refusal refusal
exact_number (frame_made (arrived κs w w' b b' a a' port id r f)) =
    let F = f tt in (rw F.number (exact (numbers w.now (CFrame port id b.now a.now)) refl), F.served.refused)
exact_number (take_made (took_out κs w w' a a' b b' port r f)) =
    let T = f tt in (rw T.number (exact (numbers w.now (CTake port a.now b.now)) refl), T.served.refused)
exact_number (message_made (handed κs w w' p p' b b' a a' port requester r f)) =
    let M = f tt in (rw (message_first M) (exact (numbers w.now (CMessage port requester p.now b.now a.now)) refl), M.served.refused)
exact_number (start_made (started κs w w' a a' r f)) =
    let S = f tt in (rw S.number (exact (numbers w.now (CStart a.now)) refl), S.served.refused)
exact_number (quiet_made (quieted κs w w' r f)) =
    let Q = f tt in (rw Q.answer (exact (numbers w.now CQuiet) refl), λ h. Q.call.refused (λ z. h (Q.answer ∙ z)))
exact_number (unit_made (told_unit κs w w' a a' r f)) =
    let U = f tt in (rw U.number (exact (numbers w.now (CUnit a.now)) refl), λ _. refl)
exact_number (counts_made (told_counts κs w w' a a' port r f)) =
    let C = f tt in (rw C.number (exact (numbers w.now (CCounts port a.now)) refl), λ _. refl)
exact_number (queue_made (took_queue κs w w' port answer bytes r block told written p Q is)) =
    (rw Q.number (exact (numbers w.now (CTakeQueue port answer bytes)) refl), λ h. is ∙ rw (Q.refused h) (put_back w.now port))
