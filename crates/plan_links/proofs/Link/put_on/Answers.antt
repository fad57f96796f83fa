-- `Link::put_on` meets its contract: by the two tests. Assumes nothing.
use mathlib.Core.Path.{refl, sym, ◌∙◌}
use native.Mathlib.Omega.{arith}
use Rattle.plan_links.proofs.Puts.{ranged, put_good, put_again, put_outside}
use Rattle.plan_links.proofs.Link.put_on.Goals as goal

pub overflow_sub-at : goal.overflow_sub-at
overflow_sub-at c = omega (arith, (ranged c.args.segments c.args.units c.args.self (sym c.is_in_range.ensures ∙ c.if-is_in_range.true)))

pub overflow_sub-at-then-is_in_range : goal.overflow_sub-at-then-is_in_range
overflow_sub-at-then-is_in_range c = omega (arith, (ranged c.args.segments c.args.units c.args.self (sym c.is_in_range.ensures ∙ c.if-is_in_range.true)))

pub bounds-ports-at : goal.bounds-ports-at
bounds-ports-at c = omega (arith, (ranged c.args.segments c.args.units c.args.self (sym c.is_in_range.ensures ∙ c.if-is_in_range.true)))

pub bounds-ports-at-then-ports-at-eq0 : goal.bounds-ports-at-then-ports-at-eq0
bounds-ports-at-then-ports-at-eq0 c = omega (arith, (ranged c.args.segments c.args.units c.args.self (sym c.is_in_range.ensures ∙ c.if-is_in_range.true)))

pub returns-then-ports-at-eq0 : goal.returns-then-ports-at-eq0
returns-then-ports-at-eq0 c = let args = c.args in
    put_good args.segments args.units args.ports.now args.self (sym c.is_in_range.ensures ∙ c.if-is_in_range.true) c.if-ports-at-eq0.true

pub returns-else-ports-at-eq0 : goal.returns-else-ports-at-eq0
returns-else-ports-at-eq0 c = let args = c.args in
    (refl, put_again args.segments args.units args.ports.now args.self (sym c.is_in_range.ensures ∙ c.if-is_in_range.true) c.if-ports-at-eq0.false)

pub returns-else-is_in_range : goal.returns-else-is_in_range
returns-else-is_in_range c = let args = c.args in
    (refl, put_outside args.segments args.units args.ports.now args.self (sym c.is_in_range.ensures ∙ c.if-is_in_range.false))
