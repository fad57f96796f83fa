-- `queue::first` meets its contract. The loop's invariant is `Scan`: of the first i frames, a take gives the one at `at`, whose number is `low`. Assumes nothing.
use Rattle.std.proofs.Common.{◌≡◌, arith}
use Rattle.queue.specs.Queue.{frames_of}
use Rattle.queue.proofs.Words.{frames_length}
use Rattle.queue.proofs.Scan.{scan_start, scan_lower, scan_keep, scan_done}
use Rattle.queue.proofs.first.Goals.{else-p-low, then-p-low}
use Rattle.queue.proofs.first.Goals as goal

pub loop-i-init : goal.loop-i-init
loop-i-init c = let block = c.args.block.now in
    scan_start (frames_of block) c.priority_at-low.result (omega (arith, frames_length block (omega arith))) c.priority_at-low.ensures

pub loop-i-preserved : goal.loop-i-preserved
loop-i-preserved c = let loop = c.loop-i in
    let block = c.args.block.now in
    let inside = frames_length block (omega arith) in
    elim c.if-p-low.branch [ then-p-low w ↦ rw (w.at-is, w.low-is) (scan_lower (frames_of block) loop.i loop.at loop.low c.priority_at-p.result (omega arith) loop.invariant c.priority_at-p.ensures (omega arith)) | else-p-low w ↦ rw (w.at-is, w.low-is) (scan_keep (frames_of block) loop.i loop.at loop.low c.priority_at-p.result (omega arith) loop.invariant c.priority_at-p.ensures (omega arith)) ]

pub returns : goal.returns
returns c = let loop = c.loop-i in
    let args = c.args in
    let end : loop.i ≡ args.n = omega arith in
    scan_done (frames_of args.block.now) args.n loop.at loop.low (omega (arith, frames_length args.block.now (omega arith))) (rw end at loop.invariant)
