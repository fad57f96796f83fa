-- `sessions::close` meets its contract: each block behind is copied down, then the count is one less. Assumes nothing.
use Rattle.std.proofs.Common.{◌≡◌, ◌∙◌, ◌-◌, arith}
use Rattle.sessions.specs.Sessions.{blocks_in, none}
use Rattle.sessions.proofs.Lists.{shift_start, shift_step}
use Rattle.sessions.proofs.Region.{blocks_long}
use Rattle.sessions.proofs.Talk.{closes}
use Rattle.sessions.proofs.close.Goals as goal

pub loop-place-init : goal.loop-place-init
loop-place-init c = shift_start c.args.i (blocks_in c.args.port.now)

pub loop-place-preserved : goal.loop-place-preserved
loop-place-preserved c =
    let n = c.count-last.ensures in
    c.move_down.ensures
    ∙ rw c.loop-place.invariant (shift_step c.args.i c.loop-place.place (blocks_in c.args.port.now) none (omega arith) (omega (arith, blocks_long c.args.port.now)))

pub returns : goal.returns
returns c =
    let n = c.count-last.ensures.0 in
    let end : c.loop-place.place ≡ c.count-last.result - 1 = omega arith in
    closes c.args.port.now c.loop-place.port c.args.i c.count-last.result (omega arith) n (omega arith) (rw end at c.loop-place.invariant)
