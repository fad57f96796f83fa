-- `forwarding::count_losses` meets its contract: the loop over the set, a bit at a time. Assumes nothing.
use native.Mathlib.Omega.{arith}
use Rattle.forwarding.proofs.Loop.{counted_start, counted_away, counted_more, counted_passed, counted_done}
use Rattle.forwarding.proofs.count_losses.Goals.{then-set-eq1, else-set-eq1}
use Rattle.forwarding.proofs.count_losses.Goals as goal

pub loop-to-init : goal.loop-to-init
loop-to-init c = counted_start (omega arith)

pub count_loss-requires : goal.count_loss-requires
count_loss-requires c = let more = c.loop-to-test.true in
    (c.requires.0, omega (arith, c.loop-to.invariant.whole), c.requires.2, more, counted_away c.loop-to.invariant more c.requires.3 c.if-set-eq1.true)

pub loop-to-preserved : goal.loop-to-preserved
loop-to-preserved c = let more = c.loop-to-test.true in
    elim c.if-set-eq1.branch [
      | then-set-eq1 w ↦ rw w.words-is (counted_more c.loop-to.invariant more (omega arith) w.if-set-eq1.true w.count_loss.ensures)
      | else-set-eq1 w ↦ rw w.words-is (counted_passed c.loop-to.invariant more w.if-set-eq1.false)
    ]

pub returns : goal.returns
returns c = counted_done (omega arith) c.loop-to.invariant
