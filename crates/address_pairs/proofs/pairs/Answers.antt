-- `address_pairs::pairs` meets its contract: the words behind the count are cut in twos. Assumes nothing.
use Rattle.std.proofs.Common.{arith}
use Rattle.address_pairs.proofs.Looking.{pairs_first}
use Rattle.address_pairs.proofs.pairs.Goals as goal

pub returns : goal.returns
returns c = rw c.as_chunks.ensures.front (pairs_first c.args.table.now c.count.result (omega arith) c.count.ensures.1)
