-- `list_commands::Named::change` meets its contract: the loop over the pairs. Assumes nothing.
use Rattle.entries.specs.Entries.{entries_of}
use Rattle.list_commands.proofs.Allowing.{Going}
use Rattle.list_commands.proofs.Named.change.Given as goal

abbrev pub invariant-loop-pair : goal.invariant-loop-pair
invariant-loop-pair l = Going l.self.ports l.self.first l.self.end l.initial.words l.words l.change (entries_of l.entries) l.pair
