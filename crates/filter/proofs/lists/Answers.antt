-- `filter::lists` meets its contract: the search among those in use. Assumes nothing.
use mathlib.Core.Path.{ap, ◌∙◌}
use Rattle.entries.specs.Entries.{listed}
use Rattle.filter.specs.Filter.{list_place}
use Rattle.pgn_list.specs.PgnList.{list_size}
use Rattle.filter.proofs.Meaning.{front_part, front}
use Rattle.filter.proofs.lists.Goals as goal

pub returns : goal.returns
returns c = c.is_listed.ensures ∙ ap (listed c.args.pgn) (front_part list_place c.count-n.result list_size c.args.block.now c.count-n.ensures.small ∙ front c.count-n.ensures)
