-- `data_in` meets its contract. The invariant: the bytes behind the place are packed. Assumes nothing.
use mathlib.Core.Path.{◌≡◌}
use Prim.Native.Nat.{◌+◌, ◌-◌, ◌*◌}
use native.Mathlib.Omega.{arith}
use Rattle.text.proofs.Digits.{pair_small}
use Rattle.candump.specs.Line.{data_in}
use Rattle.candump.proofs.Lines.{data_start, data_step, data_small}
use Rattle.candump.proofs.data_in.Goals as goal

pub loop-i-init : goal.loop-i-init
loop-i-init c = (omega arith, data_start c.args.rest.now c.args.len c.requires.0)

pub overflow_mul-word : goal.overflow_mul-word
overflow_mul-word c = let small = data_small c.args.rest.now c.args.len c.requires.0 c.loop-i.i (omega arith) c.requires.1 in
    record { fits = omega (arith, c.loop-i.invariant.1, small) }

pub overflow_add-word : goal.overflow_add-word
overflow_add-word c = let small = data_small c.args.rest.now c.args.len c.requires.0 c.loop-i.i (omega arith) c.requires.1 in
    record { fits = omega (arith, c.loop-i.invariant.1, small, c.pair_value.ensures, pair_small c.args.rest.now (15 + 2 * (c.loop-i.i - 1))) }

pub loop-i-preserved : goal.loop-i-preserved
loop-i-preserved c = let i = c.loop-i.i in
    let e : i - 1 + 1 ≡ i = omega arith in
    let step = data_step c.args.rest.now c.args.len c.requires.0 (i - 1) (omega arith) in
    (omega arith, rw (c.from.ensures, c.pair_value.ensures, c.loop-i.invariant.1) (rw e at step))

pub returns : goal.returns
unfolding data_in
returns c = let z : c.loop-i.i ≡ 0 = omega arith in
    rw z at c.loop-i.invariant.1
