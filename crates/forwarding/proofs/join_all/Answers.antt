-- `forwarding::join_all` meets its contract: the loop over the ports. Assumes nothing.
use Rattle.std.proofs.Common.{◌≡◌, ◌*◌, arith}
use Rattle.forwarding.proofs.Loop.{telling_start, telling_more, telling_done, told_sums}
use Rattle.forwarding.proofs.join_all.Goals as goal

pub loop-port-init : goal.loop-port-init
loop-port-init c = telling_start (omega arith) (omega arith)

pub overflow_add-lost : goal.overflow_add-lost
overflow_add-lost c = let S = told_sums c.loop-port.invariant c.join_own-lost.ensures (omega arith) in
    omega (arith, S.0)

pub overflow_mul-bit : goal.overflow_mul-bit
overflow_mul-bit c = let S = told_sums c.loop-port.invariant c.join_own-lost.ensures (omega arith) in
    omega (arith, S.1)

pub loop-port-preserved : goal.loop-port-preserved
loop-port-preserved c = let twice : c.loop-port.bit * 2 ≡ 2 * c.loop-port.bit = omega arith in
    rw twice (telling_more c.loop-port.invariant c.join_own-lost.ensures (omega arith) (omega arith))

pub returns : goal.returns
returns c = telling_done (omega arith) c.loop-port.invariant
