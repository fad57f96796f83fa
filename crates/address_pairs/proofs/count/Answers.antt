-- `address_pairs::count` meets its contract: a count above sixteen is sixteen. Assumes nothing.
use Rattle.std.proofs.Common.{sym, ◌∙◌}
use Rattle.address_pairs.proofs.Looking.{as_many}
use Rattle.address_pairs.proofs.count.Goals as goal

pub returns : goal.returns
returns c = (c.min.ensures ∙ sym (as_many c.args.table.now), c.min.ensures)
