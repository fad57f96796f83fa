-- The ports have the links before the index.
use mathlib.Core.Path.{◌≡◌}
use lib.ListN.{take, replicate}
use Rattle.std.specs.Prelude.{Some}
use Rattle.plan_shape.specs.Plan.{ports_length}
use Rattle.plan_links.specs.Links.{put_all}
use Rattle.plan_links.proofs.hear.Given as goal

abbrev pub invariant-loop-link : goal.invariant-loop-link
invariant-loop-link l = put_all l.segments l.units (replicate ports_length 0) (take l.link-index l.links) ≡ Some l.ports
