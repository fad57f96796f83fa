-- `parameters::of_unit` meets its contract: by cases of the parameter. Assumes nothing.
use mathlib.Core.Path.{refl, sym, ◌∙◌}
use native.Mathlib.Omega.{arith}
use Rattle.unit.proofs.Count.{pairs_most}
use Rattle.parameters.specs.Parameters.{general_parameter}
use Rattle.parameters.proofs.Laws.{chosen_last}
use Rattle.parameters.proofs.of_unit.Goals as goal

pub overflow_cast-result-in-2 : goal.overflow_cast-result-in-2
overflow_cast-result-in-2 c = omega (arith, c.general_at-pairs.ensures, pairs_most {ports = c.args.ports} c.requires.1)

pub returns-in-1 : goal.returns-in-1
unfolding general_parameter
returns-in-1 c = (simp c.in-1.is refl, omega arith)

pub returns-in-2 : goal.returns-in-2
unfolding general_parameter
returns-in-2 c = (simp c.in-2.is (rw c.general_at-pairs.ensures refl), omega (arith, c.general_at-pairs.ensures, pairs_most {ports = c.args.ports} c.requires.1))

pub returns-in-3 : goal.returns-in-3
unfolding general_parameter
returns-in-3 c = (simp c.in-3.is c.entries_of_all.ensures.0, c.entries_of_all.ensures.1)

pub returns-in_default : goal.returns-in_default
unfolding general_parameter
returns-in_default c = let rest = c.in_default.in_default-own.rest in (
  (rw c.general_at-pairs.ensures at c.losses_at.ensures.0)
      ∙ sym (chosen_last c.args.parameter _ _ _ _ rest.0.0.1 rest.0.1 rest.1),
  omega (arith, c.losses_at.ensures.1),
)
