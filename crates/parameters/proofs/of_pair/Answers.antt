-- `parameters::of_pair` meets its contract: by cases of the parameter. Assumes nothing.
use mathlib.Core.Path.{refl, sym, ◌∙◌}
use native.Mathlib.Omega.{arith}
use Rattle.parameters.proofs.Laws.{chosen_last}
use Rattle.parameters.specs.Parameters.{pair_parameter}
use Rattle.parameters.proofs.of_pair.Goals as goal

pub returns-in-1 : goal.returns-in-1
unfolding pair_parameter
returns-in-1 c = (simp c.in-1.is refl, omega arith)

pub returns-in-2 : goal.returns-in-2
unfolding pair_parameter
returns-in-2 c = (simp c.in-2.is refl, omega arith)

pub returns-in-3 : goal.returns-in-3
unfolding pair_parameter
returns-in-3 c = (simp c.in-3.is (rw c.pair_at-pair.ensures.0 at c.entries_of.ensures.0), omega (arith, c.entries_of.ensures.1))

pub returns-in_default : goal.returns-in_default
unfolding pair_parameter
returns-in_default c = let rest = c.in_default.in_default-own.rest in (
  (rw c.pair_at-pair.ensures.0 at c.losses_at.ensures.0)
      ∙ sym (chosen_last c.args.parameter _ _ _ _ rest.0.0.1 rest.0.1 rest.1),
  omega (arith, c.losses_at.ensures.1),
)
