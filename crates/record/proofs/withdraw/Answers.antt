-- `record::withdraw` meets its contract: the address table was lent and came back. Assumes nothing.
use native.Mathlib.Omega.{arith}
use Rattle.record.proofs.Regions.{table_claimed}
use borrow.Author.Rules.{rules}
use Rattle.record.proofs.withdraw.Goals as goal

pub returns : goal.returns
returns c = λ ports. table_claimed c.args.words.now c.withdraw.new.table (search rules) (omega arith) ports _ c.withdraw.ensures.table _ c.withdraw.result c.withdraw.ensures.event
