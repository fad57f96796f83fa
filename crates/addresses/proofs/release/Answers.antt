-- `addresses::release` meets its contract: a place of two zeros is free. Assumes nothing.
use Rattle.addresses.specs.Table.{place_from}
use Rattle.addresses.proofs.release.Goals as goal

pub returns : goal.returns
unfolding place_from
returns c = c.put.ensures
