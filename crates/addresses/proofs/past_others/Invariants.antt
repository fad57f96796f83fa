-- `addresses::past_others` meets its contract: a loop that passes over four others at a time. Assumes nothing.
use Prim.Native.Nat.{◌-◌}
use Rattle.addresses.specs.Table.{places}
use Rattle.addresses.specs.Steps.{Skipping}
use Rattle.addresses.proofs.past_others.Given as goal

abbrev pub invariant-loop-address : goal.invariant-loop-address
invariant-loop-address l = Skipping l.table l.word l.start l.value l.address

abbrev pub decreases-loop-address : goal.decreases-loop-address
decreases-loop-address l = places - l.address
