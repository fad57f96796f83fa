-- `record::settle` meets its contract: the address table was lent and came back. Assumes nothing.
use native.Mathlib.Omega.{arith}
use Rattle.record.proofs.Regions.{table_changed}
use borrow.Author.Rules.{rules}
use Rattle.record.proofs.settle.Goals as goal

pub returns : goal.returns
returns c = λ ports. table_changed c.args.words.now c.settle.new.table (search rules) (omega arith) ports _ c.settle.ensures
