-- `addresses::put` meets its contract: the two words stored are the place. Assumes nothing.
use native.Mathlib.Omega.{arith}
use lib.ListN.{length-set}
use borrow.Author.Rules.{rules}
use Rattle.addresses.proofs.Words.{place_put}
use Rattle.addresses.proofs.put.Goals as goal

pub bounds-table-at-2 : goal.bounds-table-at-2
bounds-table-at-2 c = simp length-set (omega arith)

pub returns : goal.returns
returns c = place_put c.args.table.now c.args.address c.args.port c.args.name (search rules) (search rules)
