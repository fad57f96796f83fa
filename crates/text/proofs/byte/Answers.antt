-- `byte` meets its contract: one store. Assumes nothing.
use Rattle.text.proofs.Writing.{writing_one}
use Rattle.text.proofs.byte.Goals as goal

pub returns : goal.returns
returns c = writing_one c.requires
