-- `filter_commands::sort_in` meets its contract: one PGN after the other is put in. Assumes nothing.
use mathlib.Core.Path.{◌≡◌, refl, ◌∙◌}
use native.Mathlib.Nat.{le_refl}
use native.Mathlib.Omega.{arith}
use Rattle.filter.proofs.Meaning.{sorted_long}
use Rattle.filter_commands.proofs.Sorting.{put_none, put_one_lem}
use Rattle.filter_commands.proofs.sort_in.Goals as goal

pub loop-i-init : goal.loop-i-init
loop-i-init c = (le_refl _, c.requires.1, put_none _ _)

pub bounds-block-i : goal.bounds-block-i
bounds-block-i c = omega (arith, c.loop-i.invariant.2.long)

pub loop-i-preserved : goal.loop-i-preserved
loop-i-preserved c = let inv = c.loop-i.invariant in
    (omega arith, omega arith, put_one_lem _ _ _ c.requires.0 inv.0 (omega arith) refl (c.insert.auto.list ∙ sorted_long c.loop-i.block (inv.2.long ∙ c.requires.0)) c.insert.ensures inv.2)

pub shape_of-block : goal.shape_of-block
shape_of-block c = c.loop-i.invariant.2.long

pub returns : goal.returns
returns c = let at = c.loop-i in
    let e : at.i ≡ c.args.held = omega arith in
    rw e at at.invariant.2
