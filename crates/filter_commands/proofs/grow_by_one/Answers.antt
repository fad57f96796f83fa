-- `filter_commands::grow_by_one` meets its contract: the list with the entry, which is put in order, or as it was where it does not hold it. Assumes nothing.
use mathlib.Core.Path.{refl, ◌∙◌}
use Rattle.filter.proofs.Meaning.{list_whole}
use Rattle.filter_commands.proofs.Commands.{not_fewer, written_long, grow_not, grow_put}
use borrow.Author.Rules.{rules}
use Rattle.filter_commands.proofs.grow_by_one.Goals as goal

pub returns-in_default : goal.returns-in_default
returns-in_default c = let E = rw c.in_default.is at c.extend_by_one.ensures in
    grow_not c.requires.0 c.requires.1 E.1 E.0

pub sort_in-requires : goal.sort_in-requires
sort_in-requires c = let whole = list_whole c.args.block.now c.requires.0 in
    let E = rw c.in-Some.is at c.extend_by_one.ensures in
    (written_long c.args.block.now c.extend_by_one.new.list c.in-Some.held c.requires.0 (c.extend_by_one.auto.list ∙ whole), not_fewer whole c.requires.1 E.0, E.0.inside)

pub shape_of-block : goal.shape_of-block
shape_of-block c = c.sort_in.auto.block ∙ search rules

pub returns : goal.returns
returns c = let E = rw c.in-Some.is at c.extend_by_one.ensures in
    grow_put c.requires.0 c.requires.1 refl _ E.0 refl (c.extend_by_one.auto.list ∙ list_whole c.args.block.now c.requires.0) c.sort_in.ensures
