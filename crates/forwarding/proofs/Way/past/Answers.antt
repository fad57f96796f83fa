-- `forwarding::Way::past` meets its contract. Assumes nothing.
use mathlib.Core.Path.{refl}
use Rattle.forwarding.specs.Steps.{way_past}
use Rattle.forwarding.proofs.Way.past.Goals as goal

pub returns : goal.returns
unfolding way_past
returns c = refl
