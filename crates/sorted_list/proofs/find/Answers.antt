-- `sorted_list::find` meets its contract: a loop over the places left, one probe a turn. Assumes nothing.
use native.Mathlib.Omega.{arith}
use Rattle.sorted_list.proofs.Ceiling.{told}
use Rattle.sorted_list.proofs.Halving.{unprobed_all, unprobed_found, unprobed_on, unprobed_none}
use Rattle.sorted_list.proofs.find.Goals as goal

pub loop-left-init : goal.loop-left-init
loop-left-init c = unprobed_all c.args.list.now c.args.x

pub returns-then-y-x : goal.returns-then-y-x
returns-then-y-x c = told c.requires (unprobed_found c.loop-left.invariant (omega arith) c.if-y-x.true)

pub loop-left-preserved : goal.loop-left-preserved
loop-left-preserved c = unprobed_on c.loop-left.invariant (omega arith) c.if_below-lo.ensures.0 c.if_below-lo.ensures.1 c.if_below.ensures.0 c.if_below.ensures.1 c.if-y-x.false

pub returns : goal.returns
returns c = told c.requires (unprobed_none c.loop-left.invariant (omega arith))
