-- `list_commands::Named::clear` meets its contract: the loop over the pairs. Assumes nothing.
use Rattle.filter.specs.Filter.{clear}
use Rattle.list_commands.proofs.PairLoop.{Walking}
use Rattle.list_commands.proofs.Named.clear.Given as goal

abbrev pub invariant-loop-pair : goal.invariant-loop-pair
invariant-loop-pair l = Walking l.self.ports l.self.first l.self.end l.initial.words l.words (λ _. clear) l.pair
