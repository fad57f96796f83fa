-- `filter_commands::lacks` meets its contract: what is listed are the first n. Assumes nothing.
use mathlib.Core.Path.{ap, ◌∙◌}
use mathlib.Core.Bool.{not}
use Rattle.entries.specs.Entries.{listed, every, entries_of}
use Rattle.filter.specs.Filter.{list_place}
use Rattle.pgn_list.specs.PgnList.{list_size}
use Rattle.filter_commands.specs.Changes.{lacks}
use Rattle.filter.proofs.Meaning.{front_part, front}
use Rattle.filter_commands.proofs.lacks.Goals as goal

pub returns : goal.returns
unfolding lacks
returns c = let xs = entries_of c.args.bytes.now in
    ap not c.lists_all.ensures ∙ ap (λ es. not (every (λ x. listed x es) xs)) (front_part list_place c.count-n.result list_size c.args.block.now c.count-n.ensures.small ∙ front c.count-n.ensures)
