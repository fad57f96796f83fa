-- `message` meets its contract. Assumes nothing.
use mathlib.Core.Path.{◌∙◌}
use Rattle.witness.proofs.Steps.{message_step}
use Rattle.witness.proofs.message.Goals as goal

pub returns : goal.returns
returns c = message_step c.requires.0 c.message-r.ensures (c.put.ensures ∙ rw (c.number.ensures, c.told-told.ensures))
