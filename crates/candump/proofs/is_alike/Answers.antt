-- `is_alike` meets its contract. The invariant: what is passed fits. Assumes nothing.
use mathlib.Core.Path.{refl, sym, ◌∙◌}
use borrow.Author.Rules.{rules}
use native.Mathlib.Omega.{arith}
use Rattle.candump.proofs.Lines.{other_length, alike_step, alike_end}
use Rattle.candump.proofs.is_alike.Goals as goal

pub returns-then-line-characters : goal.returns-then-line-characters
returns-then-line-characters c = sym (other_length 19 c.args.line.now c.args.characters.now c.if-line-characters.true)

pub loop-i-init : goal.loop-i-init
loop-i-init c = (omega arith, search rules, refl)

pub returns-then-not-fits_in : goal.returns-then-not-fits_in
returns-then-not-fits_in c = let args = c.args in
    let at-loop = c.loop-i in
    let step = alike_step 19 at-loop.i args.line.now args.characters.now (omega arith) (omega arith) in
    sym (at-loop.invariant.2 ∙ step ∙ rw (sym c.fits_in.ensures ∙ c.if-not-fits_in.true))

pub loop-i-preserved : goal.loop-i-preserved
loop-i-preserved c = let args = c.args in
    let at-loop = c.loop-i in
    let step = alike_step 19 at-loop.i args.line.now args.characters.now (omega arith) (omega arith) in
    (search rules, search rules, at-loop.invariant.2 ∙ step ∙ rw (sym c.fits_in.ensures ∙ c.if-not-fits_in.false))

pub returns : goal.returns
returns c = sym (c.loop-i.invariant.2 ∙ alike_end 19 c.loop-i.i c.args.line.now c.args.characters.now (omega arith) (omega arith))
