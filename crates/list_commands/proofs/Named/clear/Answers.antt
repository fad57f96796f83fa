-- `list_commands::Named::clear` meets its contract: the loop over the pairs. Assumes nothing.
use mathlib.Core.Path.{◌≡◌}
use native.Mathlib.Omega.{arith}
use Rattle.list_commands.proofs.PairLoop.{walk_start, walk_more, walk_done}
use Rattle.list_commands.proofs.Named.clear.Goals as goal

pub loop-pair-init : goal.loop-pair-init
loop-pair-init c = walk_start (omega arith)

pub loop-pair-preserved : goal.loop-pair-preserved
loop-pair-preserved c = walk_more c.loop-pair.invariant (omega arith) (omega arith) (omega arith) c.clear.ensures

pub returns : goal.returns
returns c = let e : c.loop-pair.pair ≡ c.args.self.end = omega arith in walk_done (rw e at c.loop-pair.invariant)
