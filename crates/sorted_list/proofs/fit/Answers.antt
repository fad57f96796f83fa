-- `sorted_list::fit` meets its contract: those that are missing are filled in. Assumes nothing.
use native.Mathlib.Omega.{arith}
use mathlib.Core.Path.{ap, ◌∙◌}
use Prim.Native.Nat.{◌-◌}
use lib.ListN.{drop, replicate, length-drop}
use lib.Seq.{length-take-le}
use Rattle.sorted_list.proofs.Fitting.{fitted_more, fitted_less}
use Rattle.sorted_list.proofs.fit.Goals as goal

pub returns-then-n-size : goal.returns-then-n-size
returns-then-n-size c = let a = c.args in
    fitted_more a.size a.n a.list.now c.requires.0 _ (omega arith) (c.fill.ensures.after (λ y h. h) ∙ ap (λ k. replicate k 0) (length-take-le (a.size - a.n) (drop a.n a.list.now) (simp length-drop (omega arith))))

pub returns-else-n-size : goal.returns-else-n-size
returns-else-n-size c = let a = c.args in fitted_less a.size a.n a.list.now c.requires.0 (omega arith)
