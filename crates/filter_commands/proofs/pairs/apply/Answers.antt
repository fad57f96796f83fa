-- `filter_commands::pairs::apply` meets its contract: by cases of the change. Assumes nothing.
use Rattle.filter_commands.specs.Pairs.{may_of, change_of}
use Rattle.filter_commands.proofs.pairs.apply.Goals as goal

pub returns-in-Adds : goal.returns-in-Adds
unfolding may_of change_of
returns-in-Adds c = rw c.in-Adds.is c.add.ensures

pub returns-in-Deletes : goal.returns-in-Deletes
unfolding may_of change_of
returns-in-Deletes c = rw c.in-Deletes.is c.delete.ensures

pub returns-in-Creates : goal.returns-in-Creates
unfolding may_of change_of
returns-in-Creates c = rw c.in-Creates.is c.create.ensures

pub returns-in-Names : goal.returns-in-Names
unfolding may_of change_of
returns-in-Names c = rw (c.in-Names.is, ← c.first_entry.ensures) c.add_name.ensures
