-- `addresses::list_on` meets its contract. The loop's invariant is `Written`: the addresses passed are listed, the rest of the buffer is as it was. Assumes nothing.
use Rattle.addresses.proofs.Listing.{Written}
use Rattle.addresses.proofs.list_on.Given as goal

abbrev pub invariant-loop-address : goal.invariant-loop-address
invariant-loop-address l = Written l.table l.port l.except l.initial.out l.out l.n l.address
