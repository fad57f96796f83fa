-- `record::reply_addresses` meets its contract: the address table is lent to be read. Assumes nothing.
use Rattle.unit.specs.Model.{model_of}
use Rattle.record.proofs.reply_addresses.Goals as goal

pub returns : goal.returns
unfolding model_of
returns c = λ ports. c.reply_addresses.ensures
