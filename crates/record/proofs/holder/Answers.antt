-- `record::holder` meets its contract: the address table is lent to be read. Assumes nothing.
use Rattle.unit.specs.Model.{model_of}
use Rattle.record.proofs.holder.Goals as goal

pub returns : goal.returns
unfolding model_of
returns c = λ ports. c.holder.ensures
