-- Each record has some bytes. Assumes nothing.
use Rattle.std.proofs.Common.{length}
use Rattle.frame_parts_examples.proofs.play_all.Given as goal

abbrev pub decreases-records : goal.decreases-records
decreases-records l = length l.rest
