-- `addresses::list_on` meets its contract. The loop's invariant is `Written`: the addresses passed are listed, the rest of the buffer is as it was. Assumes nothing.
use native.Mathlib.Omega.{arith}
use Rattle.addresses.proofs.Listing.{written_start, written_not, written_except, written_one, written_others, written_done}
use Rattle.addresses.proofs.list_on.Goals.{then-is_held_on+then-address-except, else-is_held_on, else-is_held_on-via-then-is_held_on+else-address-except, else-is_held_on-via-else-is_held_on}
use Rattle.addresses.proofs.list_on.Goals as goal

pub loop-address-init : goal.loop-address-init
loop-address-init c = written_others c.past_others-address.ensures written_start

pub loop-address-preserved : goal.loop-address-preserved
loop-address-preserved c = let passed = c.loop-address.invariant in
    let asked = c.is_held_on.ensures in
    elim c.if-is_held_on.branch [
      | then-is_held_on+then-address-except w ↦ rw (w.out-is, w.n-is) (written_one passed (omega arith) asked w.if-is_held_on.true w.if-address-except.true (omega arith))
      | else-is_held_on w ↦
          rw (w.out-is, w.n-is)
          (elim w.else-is_held_on.branch [
            | else-is_held_on-via-then-is_held_on+else-address-except v ↦ written_except passed (omega arith) v.if-address-except.false
            | else-is_held_on-via-else-is_held_on v ↦ written_not passed (omega arith) asked v.if-is_held_on.false
          ])
    ]

pub returns : goal.returns
returns c = written_done c.loop-address.invariant (omega arith)
