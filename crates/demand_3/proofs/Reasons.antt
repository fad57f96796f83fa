-- Accepted and lost ports follow from the reasons that the book's answers tell, and from room. Assumes nothing.
use mathlib.Core.Path.{◌≡◌, refl, ◌∙◌}
use mathlib.Core.Bool.{Bool, true, false, not, ◌&&◌}
use mathlib.Core.List.{List}
use Prim.Native.Nat.{ℕ, ◌-◌, ◌^◌, ◌<◌}
use native.Mathlib.Nat.{zero-div}
use native.Mathlib.Decide.{dec_lt}
use native.Mathlib.Omega.{arith}
use lib.Dec.{eqb, ltb}
use lib.ListN.{length}
use Rattle.filter.specs.declared.Reason.{Reason}
use Rattle.filter.specs.Filter.{crosses, reason_number}
use Rattle.filter.proofs.Reasons.{reason_below}
use Rattle.unit.specs.Ports.{mask, bit_at, digits, digit_at}
use Rattle.unit.specs.Model.{Model, row_at}
use Rattle.refusals.specs.Refusals.{frame_refusal}
use Rattle.bridge.specs.Calls.{offered, Call, FrameIn, TakeOut, Message, Start, Quiet, ReadUnit, ReadCounts, frame_passed, frame_answer}
use Rattle.unit.proofs.Ports.{mask_small, mask_bit, digit_at_lem, digit_past}
use Rattle.demand_3.specs.Demand3.{words, answer, Answer, accepted_ports, lost_ports, reasons_in, crossing, ByReason}
use Rattle.demand_3.proofs.Named.{no_port_lem}

-- the reasons that cross have the numbers 1 to 4
numbers : (r : Reason) → crossing (reason_number r) ≡ crosses r
numbers Reason.NotAsked = refl
numbers Reason.Permanent = refl
numbers Reason.Cleared = refl
numbers Reason.ListedInPass = refl
numbers Reason.NotListedInBlock = refl
numbers Reason.StoppedAsListed = refl
numbers Reason.StoppedAsNotListed = refl

-- bit q of a set of ports where the reason crosses and something holds there
module _ (ports : ℕ) (reason : ℕ → Reason) (holds : ℕ → Bool) where
  abbrev told : ℕ → ℕ
  told q = reason_number (reason q)

  small : (q : ℕ) → told q < 16
  small q = reason_below (reason q)

  at_port : (q : ℕ) → bit_at (mask (λ q. crosses (reason q) && holds q) ports) q ≡ crossing (digit_at (digits told ports) q) && holds q
  at_port q =
      elim (dec_lt q ports) [
        | yes h ↦ mask_bit (λ q. crosses (reason q) && holds q) ports q h ∙ rw (digit_at_lem told small ports q h, numbers (reason q))
        | no n ↦ no_port_lem ports (mask (λ q. crosses (reason q) && holds q) ports) q (mask_small (λ q. crosses (reason q) && holds q) ports) (omega arith) ∙ rw (digit_past told small ports q (omega arith))
      ]

-- where no port is named and no reason told
none_named : {m : Model} {x : Answer} (q : ℕ) → accepted_ports x ≡ 0 → lost_ports x ≡ 0 → reasons_in x ≡ 0 → ByReason m x q
unfolding bit_at digit_at
none_named q a l r = record { accepted = rw (a, r, zero-div (2 ^ q), zero-div (16 ^ q)); lost = rw (l, r, zero-div (2 ^ q), zero-div (16 ^ q)) }

module _ (ports : ℕ) (m : Model) (q : ℕ) where
  by_frame : (port id : ℕ) (bytes : List ℕ) (b : Bool) → eqb (frame_refusal ports (words ports) port id (length bytes)) 0 ≡ b → ByReason m (answer ports m (FrameIn port id bytes)) q
  unfolding answer frame_answer frame_passed
  by_frame port id bytes true e = record {
    accepted = rw e (at_port ports (λ q. (offered ports m.rest (port - 1) id q).reason) (λ q. ltb (length (row_at m q)) 32) q);
    lost = rw e (at_port ports (λ q. (offered ports m.rest (port - 1) id q).reason) (λ q. not (ltb (length (row_at m q)) 32)) q);
  }
  by_frame port id bytes false e = none_named q (rw e) (rw e) (rw e)

  pub by_reason : (k : Call) → ByReason m (answer ports m k) q
  unfolding answer
  by_reason (FrameIn port id bytes) = by_frame port id bytes (eqb (frame_refusal ports (words ports) port id (length bytes)) 0) refl
  by_reason (TakeOut port) = none_named q refl refl refl
  by_reason (Message port requester payload lentReply) = none_named q refl refl refl
  by_reason Start = none_named q refl refl refl
  by_reason Quiet = none_named q refl refl refl
  by_reason ReadUnit = none_named q refl refl refl
  by_reason (ReadCounts port) = none_named q refl refl refl
