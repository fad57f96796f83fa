-- `plan_rings::links_again` meets its contract: by the way that the code went. Assumes nothing.
use mathlib.Core.Path.{sym, refl}
use Prim.Native.Nat.{◌/◌}
use native.Mathlib.Omega.{arith}
use Rattle.plan_rings.specs.Rings.{unit_node}
use Rattle.plan_rings.proofs.Labels.{relabel_alone, link_none, link_again, link_joined}
use Rattle.plan_rings.proofs.links_again.Goals as goal

pub returns-then-segment-eq0 : goal.returns-then-segment-eq0
returns-then-segment-eq0 c = link_none c.if-segment-eq0.true

pub returns-then-from-to : goal.returns-then-from-to
returns-then-from-to c = link_again c.if-segment-eq0.false (sym c.if-from-to.true)

pub returns-then-from-unit : goal.returns-then-from-unit
returns-then-from-unit c = link_joined c.if-segment-eq0.false (λ e. c.if-from-to.false (sym e)) (relabel_alone (unit_node (c.args.link / 8)) c.told-labels (omega arith) (omega arith) c.requires.2 refl c.if-from-unit.true)

pub returns-else-from-unit : goal.returns-else-from-unit
returns-else-from-unit c = link_joined c.if-segment-eq0.false (λ e. c.if-from-to.false (sym e)) c.relabel.ensures
