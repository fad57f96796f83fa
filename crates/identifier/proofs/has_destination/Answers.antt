-- `identifier::has_destination` meets its contract, by what `pf` ensures. Assumes nothing.
use Rattle.identifier.proofs.has_destination.Goals as goal

pub returns : goal.returns
returns c = rw c.pf.ensures
