-- `plan_walk::hear` meets its contract: from unmarked marks the walk reaches what hears. Assumes nothing.
use mathlib.Core.Path.{refl}
use native.Mathlib.Omega.{arith}
use Rattle.plan_walk.specs.Walk.{marks_length}
use Rattle.plan_walk.proofs.Paths.{unmarked_at}
use Rattle.plan_walk.proofs.Answer.{walk_fresh, answer_is}
use Rattle.plan_walk.proofs.hear.Goals as goal

pub chain_links-requires : goal.chain_links-requires
chain_links-requires c = (omega arith, c.requires.0.in_range)

pub from_segment-requires : goal.from_segment-requires
from_segment-requires c = (walk_fresh c.requires.0 c.chain_links.ensures, c.requires.1, c.requires.2, unmarked_at marks_length c.args.first)

pub returns : goal.returns
returns c = answer_is marks_length refl c.requires.0 c.requires.2 c.from_segment.ensures
