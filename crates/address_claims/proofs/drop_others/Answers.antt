-- `address_claims::drop_others` meets its contract. The loop's invariant is `Passed`: the places passed are as the drop leaves them. Assumes nothing.
use Prim.Native.Nat.{zero-le}
use native.Mathlib.Omega.{arith}
use Rattle.address_claims.proofs.Dropping.{passed_start, passed_free, passed_keep, passed_drop, passed_skip, passed_done}
use Rattle.address_claims.proofs.drop_others.Goals.{then-address-keep+then-is_held_by, else-address-keep, else-address-keep-via-then-address-keep+else-is_held_by, else-address-keep-via-else-address-keep}
use Rattle.address_claims.proofs.drop_others.Goals as goal

pub past_others-address-requires : goal.past_others-address-requires
past_others-address-requires c = (c.requires, omega arith, zero-le)

pub loop-address-init : goal.loop-address-init
loop-address-init c = passed_skip c.past_others-address.ensures (passed_start c.requires)

pub past_others-address-requires-in-loop-address : goal.past_others-address-requires-in-loop-address
past_others-address-requires-in-loop-address c = (omega arith, omega arith, omega arith)

pub loop-address-smaller : goal.loop-address-smaller
loop-address-smaller c = let far = c.past_others-address-in-loop-address.ensures.onward in omega arith

pub loop-address-preserved : goal.loop-address-preserved
loop-address-preserved c = let passed = c.loop-address.invariant in
    passed_skip c.past_others-address-in-loop-address.ensures (
    elim c.if-address-keep.branch [
      | then-address-keep+then-is_held_by w ↦ rw (w.table-is, w.dropped-is) (passed_drop passed (omega arith) w.is_held_by.ensures w.if-is_held_by.true w.if-address-keep.true (omega arith) w.release.ensures)
      | else-address-keep w ↦
          rw (w.table-is, w.dropped-is)
          (elim w.else-address-keep.branch [
            | else-address-keep-via-then-address-keep+else-is_held_by v ↦ passed_free passed (omega arith) v.is_held_by.ensures v.if-is_held_by.false
            | else-address-keep-via-else-address-keep v ↦ passed_keep passed (omega arith) v.if-address-keep.false
          ])
    ]
    )

pub returns : goal.returns
returns c = passed_done c.loop-address.invariant (omega arith)
