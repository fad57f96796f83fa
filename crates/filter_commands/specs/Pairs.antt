-- What is asked of a pair before a command, whether a command with entries may be done on a pair, and what it does to it.
-- Assumes nothing.
use Rattle.std.specs.Prelude.{ℕ, Bool, not, List}
use Rattle.filter.specs.Filter.{Filter, is_cleared}
use Rattle.filter_commands.specs.Changes.{would_pass, lacks, entry_of, passes_names, may_add, may_delete, may_create, may_name, added, deleted, created, named}
use Rattle.filter_commands.specs.declared.pairs.Question.{Question}
use Rattle.filter_commands.specs.declared.pairs.Question.TheVariants.{IsCleared, IsNotCleared, WouldPass, Lacks, NamesFull}
use Rattle.filter_commands.specs.declared.pairs.Change.{Change}
use Rattle.filter_commands.specs.declared.pairs.Change.TheVariants.{Adds, Deletes, Creates, Names}

unfoldable pub holds_of : Question → List ℕ → Filter → Bool
holds_of IsCleared xs f = is_cleared f.mode
holds_of IsNotCleared xs f = not (is_cleared f.mode)
holds_of WouldPass xs f = would_pass f xs
holds_of Lacks xs f = lacks f xs
holds_of (NamesFull name mask) xs f = passes_names f (entry_of xs name mask)

unfoldable pub may_of : Change → List ℕ → Filter → Bool
may_of Adds xs f = may_add f xs
may_of Deletes xs f = may_delete f xs
may_of (Creates passing) xs f = may_create f xs
may_of (Names name mask) xs f = may_name f (entry_of xs name mask)

unfoldable pub change_of : Change → List ℕ → Filter → Filter
change_of Adds xs f = added f xs
change_of Deletes xs f = deleted f xs
change_of (Creates passing) xs f = created passing f xs
change_of (Names name mask) xs f = named f (entry_of xs name mask)
