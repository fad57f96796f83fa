-- `filter_commands::delete_one` meets its contract: refused where the search finds nothing, else the list closes up, and what is searched too. Assumes nothing.
use mathlib.Core.Path.{sym, ◌∙◌}
use Prim.Native.Nat.{◌≤◌}
use native.Mathlib.Omega.{arith}
use lib.ListN.{length}
use Rattle.filter.specs.Filter.{list_place, list_of}
use Rattle.pgn_list.specs.PgnList.{list_size}
use Rattle.pgn_list.proofs.Search.{found_first}
use Rattle.filter.proofs.Meaning.{front_part, list_whole}
use Rattle.filter_commands.proofs.Commands.{one_absent, one_listed, delete_lacking, delete_done, written_long}
use borrow.Author.Rules.{rules}
use Rattle.filter_commands.proofs.delete_one.Goals as goal

pub returns-in_default : goal.returns-in_default
returns-in_default c = let pre = c.requires in
    let e = rw (front_part list_place c.args.n list_size c.args.block.now pre.1.small) at c.find.ensures in
    delete_lacking _ _ (one_absent c.args.x pre.1 (sym e ∙ c.in_default.is))

pub close_up-kept-requires : goal.close_up-kept-requires
close_up-kept-requires c = let pre = c.requires in
    let e = rw (front_part list_place c.args.n list_size c.args.block.now pre.1.small) at c.find.ensures in
    let fits : c.args.n ≤ length (list_of c.args.block.now) = omega (arith, pre.1.small, list_whole c.args.block.now pre.0) in
    (fits, found_first fits (sym e ∙ c.in-Some.is))

pub sort_out_one-requires : goal.sort_out_one-requires
sort_out_one-requires c = let closed = c.close_up-kept in
    (written_long c.args.block.now closed.new.list closed.result c.requires.0 (closed.auto.list ∙ list_whole c.args.block.now c.requires.0), c.requires.1.small, omega (arith, closed.ensures.inside, c.requires.1.small))

pub shape_of-block : goal.shape_of-block
shape_of-block c = c.sort_out_one.auto.block ∙ search rules

pub returns : goal.returns
returns c = let pre = c.requires in
    let closed = c.close_up-kept in
    let e = rw (front_part list_place c.args.n list_size c.args.block.now pre.1.small) at c.find.ensures in
    delete_done _ _ _ pre.0 pre.2 (one_listed c.args.x pre.1 (sym e ∙ c.in-Some.is)) pre.1 (closed.auto.list ∙ list_whole c.args.block.now pre.0) closed.ensures c.sort_out_one.ensures
