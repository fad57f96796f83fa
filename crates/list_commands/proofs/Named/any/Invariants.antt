-- `list_commands::Named::any` meets its contract: the loop over the pairs. Assumes nothing.
use Rattle.entries.specs.Entries.{entries_of}
use Rattle.filter_commands.specs.Pairs.{holds_of}
use Rattle.list_commands.proofs.PairLoop.{pairs_in, Asked}
use Rattle.list_commands.proofs.Named.any.Given as goal

abbrev pub invariant-loop-pair : goal.invariant-loop-pair
invariant-loop-pair l = Asked l.self.ports l.self.first l.self.end (holds_of l.question (entries_of l.entries)) (pairs_in l.self.ports l.words) l.pair
