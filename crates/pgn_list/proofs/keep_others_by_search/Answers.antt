-- `pgn_list::keep_others_by_search` meets its contract: what one entry leaves is left to the next. Assumes nothing.
use native.Mathlib.Omega.{arith}
use Rattle.pgn_list.proofs.Changes.{entry_here, entries_long}
use Rattle.pgn_list.proofs.Removing.{removed_one, removed_all}
use Rattle.pgn_list.proofs.keep_others_by_search.Goals as goal

pub loop-entry-preserved : goal.loop-entry-preserved
loop-entry-preserved c = let es = c.args.entries.now in
    removed_one c.loop-entry.invariant (omega (arith, entries_long es)) (entry_here es (omega arith) c.number.ensures) c.remove-kept.auto.list c.remove-kept.ensures

pub returns : goal.returns
returns c = removed_all c.loop-entry.invariant (omega (arith, entries_long c.args.entries.now))
