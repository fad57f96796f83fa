-- `list_commands::Named::check` meets its contract: by the two checks of the change. Assumes nothing.
use Rattle.list_commands.specs.Commands.{list_refusal}
use Rattle.list_commands.proofs.Named.check.Goals as goal

pub returns-then-any : goal.returns-then-any
unfolding list_refusal
returns-then-any c = λ from to N. rw (c.checks_of.ensures _ from to _ _, ← (c.any.ensures from to N), c.if-any.true)

pub returns-then-any-2 : goal.returns-then-any-2
unfolding list_refusal
returns-then-any-2 c = λ from to N. rw (c.checks_of.ensures _ from to _ _, ← (c.any.ensures from to N), c.if-any.false, ← (c.any-2.ensures from to N), c.if-any-2.true)

pub returns : goal.returns
unfolding list_refusal
returns c = λ from to N. rw (c.checks_of.ensures _ from to _ _, ← (c.any.ensures from to N), c.if-any.false, ← (c.any-2.ensures from to N), c.if-any-2.false)
