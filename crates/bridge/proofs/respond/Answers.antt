-- `bridge::respond` meets its contract, by what its two steps ensure. Assumes nothing.
use Rattle.bridge.proofs.Passes.{responded}
use Rattle.bridge.proofs.respond.Goals as goal

pub returns : goal.returns
returns c = responded (c.act-a.ensures _) c.announce-unsent.ensures
