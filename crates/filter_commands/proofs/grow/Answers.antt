-- `filter_commands::grow` meets its contract: few entries in place, others by a copy, unless they would pass; what is new is put in order. Assumes nothing.
use mathlib.Core.Path.{refl, sym, ap, ◌∙◌}
use lib.ListN.{length}
use Rattle.entries.specs.Entries.{entries_of}
use native.Mathlib.Omega.{arith}
use Rattle.filter.proofs.Meaning.{list_whole}
use Rattle.filter_commands.proofs.Commands.{not_fewer, written_long, grow_few, grow_over, grow_put}
use borrow.Author.Rules.{rules}
use Rattle.filter_commands.proofs.grow.Goals as goal

pub unwrap-held-requires : goal.unwrap-held-requires
unwrap-held-requires c = grow_few c.args.block.now (entries_of c.args.bytes.now) c.extend.new.list c.extend.result c.requires.0 c.requires.1 (omega arith) c.extend.ensures

pub sort_in-requires : goal.sort_in-requires
sort_in-requires c = let whole = list_whole c.args.block.now c.requires.0 in
    let E = rw c.unwrap-held.ensures at c.extend.ensures in
    (written_long c.args.block.now c.extend.new.list c.unwrap-held.result c.requires.0 (c.extend.auto.list ∙ whole), not_fewer whole c.requires.1 E, E.inside)

pub shape_of-block-then-count-n : goal.shape_of-block-then-count-n
shape_of-block-then-count-n c = c.sort_in.auto.block ∙ search rules

pub returns-then-count-n : goal.returns-then-count-n
returns-then-count-n c = let E = rw c.unwrap-held.ensures at c.extend.ensures in
    grow_put c.requires.0 c.requires.1 refl _ E refl (c.extend.auto.list ∙ list_whole c.args.block.now c.requires.0) c.sort_in.ensures

pub returns-in_default : goal.returns-in_default
returns-in_default c = grow_over c.requires.0 c.requires.1 c.copied-list.ensures (rw c.in_default.is at c.extend-2.ensures)

pub sort_in-requires-2 : goal.sort_in-requires-2
sort_in-requires-2 c = let whole = list_whole c.args.block.now c.requires.0 in
    let E = rw c.in-Some.is at c.extend-2.ensures in
    (written_long c.args.block.now c.copy_from_slice.new.self c.in-Some.held c.requires.0 (c.copy_from_slice.auto.self ∙ whole), not_fewer (ap length c.copied-list.ensures ∙ whole) c.requires.1 E, E.inside)

pub shape_of-block : goal.shape_of-block
shape_of-block c = let whole = list_whole c.args.block.now c.requires.0 in
    c.sort_in-2.auto.block ∙ written_long c.args.block.now c.copy_from_slice.new.self c.in-Some.held c.requires.0 (c.copy_from_slice.auto.self ∙ whole) ∙ sym c.requires.0

pub returns : goal.returns
returns c = let E = rw c.in-Some.is at c.extend-2.ensures in
    grow_put c.requires.0 c.requires.1 c.copied-list.ensures _ E c.copy_from_slice.ensures.after (c.copy_from_slice.auto.self ∙ list_whole c.args.block.now c.requires.0) c.sort_in-2.ensures
