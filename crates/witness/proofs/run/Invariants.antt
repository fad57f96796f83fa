-- `run` meets its contract. The invariant: after i calls the record and the first i answers are the book's. Assumes nothing.
use lib.ListN.{length}
use Rattle.witness.specs.Replay.{Running}
use Rattle.witness.proofs.run.Given as goal

abbrev pub invariant-loop-i : goal.invariant-loop-i
invariant-loop-i l = Running l.initial.words l.words l.calls l.bytes (length l.initial.reply) l.initial.answers l.answers l.i
