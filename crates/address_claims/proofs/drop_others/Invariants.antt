-- `address_claims::drop_others` meets its contract. The loop's invariant is `Passed`: the places passed are as the drop leaves them. Assumes nothing.
use Prim.Native.Nat.{◌-◌}
use Rattle.addresses.specs.Table.{places}
use Rattle.address_claims.proofs.Dropping.{Passed}
use Rattle.address_claims.proofs.drop_others.Given as goal

abbrev pub invariant-loop-address : goal.invariant-loop-address
invariant-loop-address l = Passed l.initial.table l.table l.name l.keep l.dropped l.address

abbrev pub decreases-loop-address : goal.decreases-loop-address
decreases-loop-address l = places - l.address
