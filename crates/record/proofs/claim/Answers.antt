-- `record::claim` meets its contract: the address table was lent and came back. Assumes nothing.
use native.Mathlib.Omega.{arith}
use Rattle.record.proofs.Regions.{table_claimed}
use borrow.Author.Rules.{rules}
use Rattle.record.proofs.claim.Goals as goal

pub returns : goal.returns
returns c = λ ports. table_claimed c.args.words.now c.claim.new.table (search rules) (omega arith) ports _ c.claim.ensures.table _ c.claim.result c.claim.ensures.event
