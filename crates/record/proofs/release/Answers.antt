-- `record::release` meets its contract: the address table was lent and came back. Assumes nothing.
use native.Mathlib.Omega.{arith}
use Rattle.record.proofs.Regions.{table_changed}
use borrow.Author.Rules.{rules}
use Rattle.record.proofs.release.Goals as goal

pub returns : goal.returns
returns c = λ ports. table_changed c.args.words.now c.release.new.table (search rules) (omega arith) ports _ c.release.ensures
