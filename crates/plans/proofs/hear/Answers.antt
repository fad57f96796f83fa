-- `plans::hear` meets its contract: by the way that the code went. Assumes nothing.
use mathlib.Core.Path.{◌≡◌, sym, ◌∙◌}
use mathlib.Core.Bool.{true, true≢false}
use borrow.Author.Rules.{rules}
use Rattle.plan_shape.specs.Plan.{plan_of, in_range}
use Rattle.plan_shape.proofs.Ranges.{ranged}
use Rattle.plans.specs.Plans.{Lent}
use Rattle.plans.proofs.Answers.{refused_28, refused_29, answer, walkable, first_small}
use Rattle.plans.proofs.hear.Goals as goal

pub returns-then-not-is_in_range : goal.returns-then-not-is_in_range
returns-then-not-is_in_range c =
    let args = c.args in
    let ports : c.in_ok-ports.ports.now ≡ args.ports.now = search rules in
    let lists : c.in_ok-lists.lists.now ≡ args.lists.now = search rules in
    let plan = plan_of args.units args.ports.now args.lists.now in
    let lent : Lent plan = (search rules, search rules) in
    refused_28 lent (rw (ports, lists) at (sym c.is_in_range.ensures ∙ c.if-not-is_in_range.true))

pub has_ring-requires : goal.has_ring-requires
has_ring-requires c =
    let args = c.args in
    let ports : c.in_ok-ports.ports.now ≡ args.ports.now = search rules in
    let lists : c.in_ok-lists.lists.now ≡ args.lists.now = search rules in
    let plan = plan_of args.units args.ports.now args.lists.now in
    let lent : Lent plan = (search rules, search rules) in
    let good : in_range args.segments plan args.first args.pgn ≡ true = rw (ports, lists) at (sym c.is_in_range.ensures ∙ c.if-not-is_in_range.false) in
    let W = walkable (ranged args.segments plan args.first args.pgn good) lent in
    rw ports (W.few, W.in_range)

pub returns-then-has_ring : goal.returns-then-has_ring
returns-then-has_ring c =
    let args = c.args in
    let ports : c.in_ok-ports.ports.now ≡ args.ports.now = search rules in
    let lists : c.in_ok-lists.lists.now ≡ args.lists.now = search rules in
    let plan = plan_of args.units args.ports.now args.lists.now in
    let lent : Lent plan = (search rules, search rules) in
    let good : in_range args.segments plan args.first args.pgn ≡ true = rw (ports, lists) at (sym c.is_in_range.ensures ∙ c.if-not-is_in_range.false) in
    refused_29 lent good ((rw ports at (c.has_ring.ensures args.lists.now)).0 c.if-has_ring.true)

pub hear-requires : goal.hear-requires
hear-requires c =
    let args = c.args in
    let ports : c.in_ok-ports.ports.now ≡ args.ports.now = search rules in
    let lists : c.in_ok-lists.lists.now ≡ args.lists.now = search rules in
    let plan = plan_of args.units args.ports.now args.lists.now in
    let lent : Lent plan = (search rules, search rules) in
    let good : in_range args.segments plan args.first args.pgn ≡ true = rw (ports, lists) at (sym c.is_in_range.ensures ∙ c.if-not-is_in_range.false) in
    let R = ranged args.segments plan args.first args.pgn good in
    rw (ports, lists) (walkable R lent, (first_small R).0, (first_small R).1)

pub returns : goal.returns
returns c =
    let args = c.args in
    let ports : c.in_ok-ports.ports.now ≡ args.ports.now = search rules in
    let lists : c.in_ok-lists.lists.now ≡ args.lists.now = search rules in
    let plan = plan_of args.units args.ports.now args.lists.now in
    let lent : Lent plan = (search rules, search rules) in
    let good : in_range args.segments plan args.first args.pgn ≡ true = rw (ports, lists) at (sym c.is_in_range.ensures ∙ c.if-not-is_in_range.false) in
    answer lent good (λ ring. true≢false (sym ((rw ports at (c.has_ring.ensures args.lists.now)).1 ring) ∙ c.if-has_ring.false)) (rw (ports, lists) at c.hear.ensures)
