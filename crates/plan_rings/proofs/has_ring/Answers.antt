-- `plan_rings::has_ring` meets its contract: while no link joined what was joined, one path at most leads from a segment to another. Assumes nothing.
use mathlib.Core.Path.{refl, sym}
use mathlib.Core.Bool.{true≢false}
use mathlib.Core.List.{[]}
use native.Mathlib.Omega.{arith}
use Rattle.plan_rings.proofs.Unique.{ringless_start, ringless_more, ringed, ringless_done}
use Rattle.plan_rings.proofs.has_ring.Goals as goal

pub loop-link-init : goal.loop-link-init
loop-link-init c lists = ringless_start c.number-labels.ensures

pub links_again-requires : goal.links_again-requires
links_again-requires c = (omega arith, c.requires.1 c.loop-link.link c.loop-link-test.true, (c.loop-link.invariant []).labeled.fresh)

pub returns-then-links_again : goal.returns-then-links_again
returns-then-links_again c lists = ((λ _. ringed (record { few = c.requires.0; in_range = c.requires.1 }) c.loop-link-test.true c.links_again.ensures (c.loop-link.invariant lists) c.if-links_again.true), (λ _. refl))

pub loop-link-preserved : goal.loop-link-preserved
loop-link-preserved c lists = ringless_more (record { few = c.requires.0; in_range = c.requires.1 }) c.loop-link-test.true c.links_again.ensures (c.loop-link.invariant lists) c.if-links_again.false

pub returns : goal.returns
returns c lists = ((λ e. absurd (true≢false (sym e))), (λ R. absurd (ringless_done (omega arith) (c.loop-link.invariant lists) R)))
