-- `list_commands::Named::any` meets its contract: the loop over the pairs. Assumes nothing.
use mathlib.Core.Path.{◌≡◌, sym, ◌∙◌}
use native.Mathlib.Omega.{arith}
use Rattle.list_commands.proofs.PairLoop.{ask_start, ask_found, ask_more, ask_done}
use Rattle.list_commands.proofs.Named.any.Goals as goal

pub loop-pair-init : goal.loop-pair-init
loop-pair-init c = ask_start

pub returns-then-question : goal.returns-then-question
returns-then-question c = ask_found c.loop-pair.invariant (omega arith) (omega arith) (sym c.question.ensures ∙ c.if-question.true)

pub loop-pair-preserved : goal.loop-pair-preserved
loop-pair-preserved c = ask_more c.loop-pair.invariant (omega arith) (omega arith) (sym c.question.ensures ∙ c.if-question.false)

pub returns : goal.returns
returns c = let e : c.loop-pair.pair ≡ c.args.self.end = omega arith in ask_done (rw e at c.loop-pair.invariant)
