-- `queue::priority_at` meets its contract, by what `get` and `identifier::priority` ensure. Assumes nothing.
use Rattle.std.proofs.Common.{ap, ◌∙◌}
use Rattle.queue.specs.Queue.{priority}
use Rattle.queue.proofs.priority_at.Goals as goal

pub returns : goal.returns
returns c = c.priority.ensures ∙ ap priority c.get-f.ensures
