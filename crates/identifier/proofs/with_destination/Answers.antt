-- `identifier::with_destination` meets its contract: it is that sum. Assumes nothing.
use mathlib.Core.Path.{refl}
use Rattle.identifier.specs.Turning.{with_destination}
use Rattle.identifier.proofs.with_destination.Goals as goal

pub returns : goal.returns
unfolding with_destination
returns c = refl
