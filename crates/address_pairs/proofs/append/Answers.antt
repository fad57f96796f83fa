-- `address_pairs::append` meets its contract: two words and the count are stored. Assumes nothing.
use Rattle.std.proofs.Common.{arith}
use Rattle.address_pairs.proofs.Appending.{appended}
use Rattle.address_pairs.proofs.append.Goals as goal

pub returns : goal.returns
returns c = appended c.args.table.now c.args.outer c.args.inner c.count-n.ensures.1 (omega arith) c.requires.long c.requires.addresses.0 c.requires.addresses.1
