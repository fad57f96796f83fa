-- `list_commands::Named::change` meets its contract: the loop over the pairs. Assumes nothing.
use mathlib.Core.Path.{◌≡◌}
use native.Mathlib.Omega.{arith}
use Rattle.list_commands.proofs.Allowing.{go_start, go_more, go_refused, go_done}
use Rattle.list_commands.proofs.Named.change.Goals as goal

pub loop-pair-init : goal.loop-pair-init
loop-pair-init c = go_start (omega arith)

pub returns-then-not-change : goal.returns-then-not-change
returns-then-not-change c = go_refused c.loop-pair.invariant (omega arith) (omega arith) c.change.ensures c.if-not-change.true

pub loop-pair-preserved : goal.loop-pair-preserved
loop-pair-preserved c = go_more c.loop-pair.invariant (omega arith) (omega arith) c.change.ensures c.if-not-change.false (omega arith)

pub returns : goal.returns
returns c = let e : c.loop-pair.pair ≡ c.args.self.end = omega arith in go_done (rw e at c.loop-pair.invariant)
