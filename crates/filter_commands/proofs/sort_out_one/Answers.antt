-- `filter_commands::sort_out_one` meets its contract: the PGN is taken out, and they are as many as the list holds. Assumes nothing.
use mathlib.Core.Path.{◌∙◌}
use Rattle.filter.proofs.Meaning.{sorted_long}
use Rattle.filter_commands.proofs.Sorting.{taken_out, part_long}
use Rattle.filter_commands.proofs.sort_out_one.Goals as goal

pub returns : goal.returns
returns c = let long = c.requires.0 in
    let l = c.remove-kept.auto.list ∙ sorted_long c.args.block.now long in
    taken_out _ _ _ _ long l (c.fit.auto.list ∙ part_long c.args.block.now c.remove-kept.new.list long l) c.remove-kept.ensures c.fit.ensures
