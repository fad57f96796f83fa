-- `filter_commands::pairs::answer` meets its contract: by cases of the question. Assumes nothing.
use Rattle.filter_commands.specs.Pairs.{holds_of}
use Rattle.filter_commands.proofs.pairs.answer.Goals as goal

pub returns-in-IsCleared : goal.returns-in-IsCleared
unfolding holds_of
returns-in-IsCleared c = rw c.in-IsCleared.is c.is_cleared.ensures

pub returns-in-IsNotCleared : goal.returns-in-IsNotCleared
unfolding holds_of
returns-in-IsNotCleared c = rw (c.in-IsNotCleared.is, c.is_cleared-in-IsNotCleared.ensures)

pub returns-in-WouldPass : goal.returns-in-WouldPass
unfolding holds_of
returns-in-WouldPass c = rw c.in-WouldPass.is c.would_pass.ensures

pub returns-in-Lacks : goal.returns-in-Lacks
unfolding holds_of
returns-in-Lacks c = rw c.in-Lacks.is c.lacks.ensures

pub returns-in-NamesFull : goal.returns-in-NamesFull
unfolding holds_of
returns-in-NamesFull c = rw (c.in-NamesFull.is, ← c.first_entry.ensures) c.names_full.ensures
