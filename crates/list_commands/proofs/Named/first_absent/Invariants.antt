-- `list_commands::Named::first_absent` meets its contract: a loop over the pairs and in it one over the entries. Assumes nothing.
use lib.ListN.{get_or}
use Rattle.entries.specs.Entries.{entries_of}
use Rattle.filter.specs.Filter.{clear}
use Rattle.list_commands.proofs.PairLoop.{pairs_in}
use Rattle.list_commands.proofs.Searching.{Held, Searched}
use Rattle.list_commands.proofs.Named.first_absent.Given as goal

abbrev pub invariant-loop-pair : goal.invariant-loop-pair
invariant-loop-pair l = Searched (pairs_in l.self.ports l.words) (entries_of l.entries) l.self.first l.self.end l.pair

abbrev pub invariant-loop-entry : goal.invariant-loop-entry
invariant-loop-entry l = Held (get_or (pairs_in l.self.ports l.words) l.pair clear).entries (entries_of l.entries) l.entry
