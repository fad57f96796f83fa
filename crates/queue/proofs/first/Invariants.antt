-- `queue::first` meets its contract. The loop's invariant is `Scan`: of the first i frames, a take gives the one at `at`, whose number is `low`. Assumes nothing.
use Rattle.std.proofs.Common.{take}
use Rattle.queue.specs.Queue.{frames_of}
use Rattle.queue.proofs.Scan.{Scan}
use Rattle.queue.proofs.first.Given as goal

abbrev pub invariant-loop-i : goal.invariant-loop-i
invariant-loop-i l = Scan (take l.i (frames_of l.block)) l.at l.low
