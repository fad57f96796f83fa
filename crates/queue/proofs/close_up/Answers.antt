-- `queue::close_up` meets its contract. The loop's invariant: up to `place` the frames without frame `at`, from there on the frames as they were. Assumes nothing.
use Rattle.std.proofs.Common.{◌≡◌, ◌-◌, refl, ◌∙◌, arith}
use Rattle.queue.specs.Queue.{frames_of}
use Rattle.queue.specs.Steps.{blank}
use Rattle.queue.proofs.Words.{frames_length}
use Rattle.queue.proofs.Lists.{shift_start, shift_step, shift_done}
use Rattle.queue.proofs.close_up.Goals as goal

pub loop-place-init : goal.loop-place-init
loop-place-init c = (c.requires.0, shift_start c.args.at (frames_of c.args.block.now), refl)

pub loop-place-preserved : goal.loop-place-preserved
loop-place-preserved c = let loop = c.loop-place in
    let args = c.args in (
      omega arith,
      c.put.ensures.0 ∙ rw (c.get-f.ensures, loop.invariant.1) (shift_step args.at loop.place (frames_of args.block.now) blank (omega arith) (omega (arith, frames_length args.block.now (omega arith)))),
      c.put.ensures.1 ∙ loop.invariant.2,
    )

pub returns : goal.returns
returns c = let args = c.args in
    let end : c.loop-place.place ≡ args.n - 1 = omega arith in (
      rw (c.loop-place.invariant.1, end)
          (shift_done args.at args.n (frames_of args.block.now) (omega arith) (omega (arith, frames_length args.block.now (omega arith)))),
      c.loop-place.invariant.2,
    )
