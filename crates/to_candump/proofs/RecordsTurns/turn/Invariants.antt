-- Each record has some bytes. Assumes nothing.
use Rattle.std.proofs.Common.{◌≡◌, ◌-◌, ◌≤◌, length}
use Rattle.to_candump.proofs.RecordsTurns.turn.Given as goal

abbrev pub invariant-records : goal.invariant-records
invariant-records g l = (l.used ≤ length l.log) × (l.written ≤ length l.out) × (length l.out ≡ length l.initial.out)

abbrev pub decreases-records : goal.decreases-records
decreases-records g l = length l.log - l.used
