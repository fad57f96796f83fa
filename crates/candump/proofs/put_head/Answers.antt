-- `put_head` meets its contract: three texts, one after the other. Assumes nothing.
use native.Mathlib.Omega.{arith}
use Rattle.text.proofs.Writing.{writing_join}
use Rattle.candump.proofs.put_head.Goals as goal

pub returns : goal.returns
returns c = writing_join (writing_join c.copy-next.ensures c.byte-next.ensures (omega arith)) c.byte.ensures (omega arith)
