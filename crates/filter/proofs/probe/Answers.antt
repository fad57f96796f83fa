-- `filter::probe` meets its contract: what is searched are the first n of the PGNs in rising order. Assumes nothing.
use mathlib.Core.Path.{◌∙◌}
use Rattle.filter.specs.Filter.{sorted_place}
use Rattle.pgn_list.specs.PgnList.{list_size}
use Rattle.filter.proofs.Meaning.{front_part, sorted_front}
use Rattle.filter.proofs.probe.Goals as goal

pub returns : goal.returns
returns c = rw (front_part sorted_place c.count-n.result list_size c.args.block.now c.count-n.ensures.small ∙ sorted_front c.requires c.count-n.ensures) at c.find.ensures
