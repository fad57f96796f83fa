-- `name_entries::append` meets its contract: three words and the count are stored. Assumes nothing.
use native.Mathlib.Omega.{arith}
use lib.ListN.{length-set}
use Rattle.name_entries.proofs.Holding.{appended}
use Rattle.name_entries.proofs.append.Goals as goal

pub bounds-block-at-2 : goal.bounds-block-at-2
bounds-block-at-2 c = simp length-set (omega arith)

pub bounds-block-at-3 : goal.bounds-block-at-3
bounds-block-at-3 c = simp length-set (omega arith)

pub returns : goal.returns
returns c = let a = c.args in appended a.block.now a.n a.pgn a.name a.mask c.requires.0 c.requires.1
