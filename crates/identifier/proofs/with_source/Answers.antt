-- `identifier::with_source` meets its contract: it is that sum. Assumes nothing.
use mathlib.Core.Path.{refl}
use Rattle.identifier.specs.Turning.{with_source}
use Rattle.identifier.proofs.with_source.Goals as goal

pub returns : goal.returns
unfolding with_source
returns c = refl
