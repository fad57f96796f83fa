-- `filter_commands::clear` meets its contract: a mode word of 0 is cleared, whatever the count says. Assumes nothing.
use lib.ListN.{length-set}
use Rattle.filter.proofs.Meaning.{cleared_is}
use Rattle.filter_commands.proofs.clear.Goals as goal

pub returns : goal.returns
returns c = record { state = cleared_is c.args.block.now; long = length-set c.args.block.now 0 0 }
