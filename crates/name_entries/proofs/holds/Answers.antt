-- `name_entries::holds` meets its contract: one of the first entries is the same. Assumes nothing.
use mathlib.Core.Path.{ap, ◌∙◌}
use Rattle.name_entries.specs.NameEntries.{is_there}
use Rattle.name_entries.proofs.Matching.{there}
use Rattle.name_entries.proofs.holds.Goals as goal

pub returns : goal.returns
returns c = let a = c.args in
    c.has.ensures ∙ there (record { pgn = a.pgn; name = a.name; mask = a.mask }) c.first_entries.result.now ∙ ap (is_there (record { pgn = a.pgn; name = a.name; mask = a.mask })) c.first_entries.ensures.0
