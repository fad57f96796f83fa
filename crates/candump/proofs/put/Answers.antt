-- `put` meets its contract: the head and the tail. Assumes nothing.
use native.Mathlib.Omega.{arith}
use Rattle.candump.specs.Line.{written}
use Rattle.text.proofs.Writing.{writing_join}
use Rattle.candump.proofs.put.Goals as goal

pub returns : goal.returns
unfolding written
returns c = writing_join c.put_head-next.ensures c.put_tail.ensures (omega arith)
