-- `parameters::entries_of_all` meets its contract: the loop's sum is that of the lists passed. Assumes nothing.
use mathlib.Core.Path.{◌≡◌, refl}
use native.Mathlib.Omega.{arith}
use Rattle.unit.specs.Count.{pair_count}
use Rattle.unit.specs.Ports.{total}
use Rattle.unit.proofs.Count.{pairs_most}
use Rattle.unit.proofs.Ports.{total_step}
use Rattle.parameters.proofs.entries_of_all.Goals as goal

pub loop-i-init : goal.loop-i-init
unfolding total
loop-i-init c = (refl, omega arith)

pub entries_of-sum-requires : goal.entries_of-sum-requires
entries_of-sum-requires c = (c.requires.1, c.requires.2, omega (arith, c.general_at-i-end.ensures))

pub overflow_add-sum : goal.overflow_add-sum
overflow_add-sum c = omega (arith, c.entries_of-sum.ensures.1, c.loop-i.invariant.1, c.general_at-i-end.ensures, pairs_most {ports = c.args.ports} c.requires.1)

pub loop-i-preserved : goal.loop-i-preserved
loop-i-preserved c = let I = c.loop-i.invariant in
    let E = c.entries_of-sum.ensures in
    (rw (I.0, E.0, total_step), omega (arith, I.1, E.1))

pub returns : goal.returns
returns c = let I = c.loop-i.invariant in
    let done : c.loop-i.i ≡ pair_count c.args.ports = omega (arith, c.general_at-i-end.ensures) in
    (rw done at I.0, omega (arith, I.1, done, pairs_most {ports = c.args.ports} c.requires.1))
