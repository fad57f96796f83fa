-- `record::drop_others` meets its contract: the address table was lent and came back. Assumes nothing.
use native.Mathlib.Omega.{arith}
use Rattle.record.proofs.Regions.{table_changed}
use borrow.Author.Rules.{rules}
use Rattle.record.proofs.drop_others.Goals as goal

pub returns : goal.returns
returns c = λ ports. table_changed c.args.words.now c.drop_others.new.table (search rules) (omega arith) ports _ c.drop_others.ensures.table
