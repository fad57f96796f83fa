-- `sorted_list::make_room` meets its contract: from the end on, each that is above x moves up by one. Assumes nothing.
use mathlib.Core.Path.{◌≡◌}
use Prim.Native.Nat.{◌+◌, ◌-◌}
use native.Mathlib.Omega.{arith}
use Rattle.sorted_list.proofs.Moves.{making_none, making_one, made_some, made_all}
use Rattle.sorted_list.proofs.make_room.Goals as goal

pub loop-i-init : goal.loop-i-init
loop-i-init c = making_none c.args.list.now c.args.n c.args.x c.requires

pub returns-then-y-x : goal.returns-then-y-x
returns-then-y-x c = let e : c.loop-i.i - 1 + 1 ≡ c.loop-i.i = omega arith in
    rw e (made_some c.requires c.loop-i.i c.loop-i.invariant (omega arith) c.if-y-x.true)

pub loop-i-preserved : goal.loop-i-preserved
loop-i-preserved c = let e : c.loop-i.i - 1 + 1 ≡ c.loop-i.i = omega arith in
    rw e (making_one c.requires c.loop-i.i c.loop-i.invariant (omega arith) c.if-y-x.false)

pub returns : goal.returns
returns c = made_all c.requires c.loop-i.i c.loop-i.invariant (omega arith)
