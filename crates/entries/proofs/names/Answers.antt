-- `entries::names` meets its contract. Assumes nothing.
use mathlib.Core.Path.{ap, ◌∙◌}
use Rattle.storage.specs.Bytes.{packed}
use Rattle.entries.specs.Entries.{listed}
use Rattle.entries.proofs.ThreeBytes.{some_listed}
use Rattle.entries.proofs.names.Goals as goal

pub returns : goal.returns
returns c = c.has.ensures ∙ some_listed packed c.args.x c.all.result.now ∙ ap (listed c.args.x) c.all.ensures
