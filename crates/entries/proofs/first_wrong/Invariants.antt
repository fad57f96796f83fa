-- `entries::first_wrong` meets its contract: a walk over the entries that stops at the first which is no PGN. Assumes nothing.
use Rattle.entries.specs.Entries.{entries_of, first_wrong}
use Rattle.entries.proofs.ThreeBytes.{Judged}
use Rattle.entries.proofs.first_wrong.Given as goal

abbrev pub invariant-loop-place : goal.invariant-loop-place
invariant-loop-place l = Judged (first_wrong (entries_of l.bytes)) (entries_of l.bytes) l.place
