-- `plan_links::hear` meets its contract: one link after the other. Assumes nothing.
use mathlib.Core.Path.{◌≡◌, sym, ◌∙◌}
use mathlib.Core.List.{List}
use Prim.Native.Nat.{ℕ, ◌+◌}
use native.Mathlib.Omega.{arith}
use borrow.Author.Rules.{rules}
use lib.ListN.{length, replicate}
use Rattle.std.specs.Prelude.{Err}
use Rattle.checks.specs.declared.refusal.Refusal.TheVariants.{OutsidePlan}
use Rattle.plan_shape.specs.Plan.{ports_length}
use Rattle.plan_links.proofs.Puts.{put_none, put_next, put_whole, refused_all, bad, good}
use Rattle.plan_links.proofs.hear.Goals as goal

abbrev none : List ℕ
none = replicate ports_length 0

pub loop-link-init : goal.loop-link-init
loop-link-init c = put_none c.args.segments c.args.units none

pub loop-link-preserved : goal.loop-link-preserved
loop-link-preserved c = let args = c.args in
    put_next args.segments args.units none args.links.now c.loop-link.link-index _ c.loop-link-test.true c.loop-link.invariant ∙ c.in_ok-put_on.ensures

pub returns-in_err-put_on : goal.returns-in_err-put_on
returns-in_err-put_on c =
    let args = c.args in
    let e : c.from_residual.result ≡ Err OutsidePlan = search rules in
    let refused = put_next args.segments args.units none args.links.now c.loop-link.link-index _ c.loop-link-test.true c.loop-link.invariant ∙ c.in_err-put_on.ensures.1 in
    rw e (bad c.if-lists-ne-LISTS_LENGTH.false (refused_all args.segments args.units none args.links.now (c.loop-link.link-index + 1) refused))

pub returns : goal.returns
returns c =
    let links = c.args.links.now in
    let whole : c.loop-link.link-index ≡ length links = omega arith in
    good c.if-lists-ne-LISTS_LENGTH.false (sym (put_whole c.args.segments c.args.units none links) ∙ (rw whole at c.loop-link.invariant)) c.hear.ensures
