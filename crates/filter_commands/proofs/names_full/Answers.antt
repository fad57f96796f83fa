-- `filter_commands::names_full` meets its contract: no NAME entries, fewer than eight, or the search among eight. Assumes nothing.
use native.Mathlib.Omega.{arith}
use Rattle.filter_commands.proofs.Names.{full_none, full_room, full_by}
use Rattle.filter_commands.proofs.names_full.Goals as goal

pub returns-then-block-lt-BLOCK_NAMED : goal.returns-then-block-lt-BLOCK_NAMED
returns-then-block-lt-BLOCK_NAMED c = full_none _ _ c.if-block-lt-BLOCK_NAMED.true

pub returns-then-n-lt-MOST : goal.returns-then-n-lt-MOST
returns-then-n-lt-MOST c = full_room _ _ (omega arith) c.count-n.ensures.0 c.if-n-lt-MOST.true

pub returns : goal.returns
returns c = full_by _ _ (omega arith) c.count-n.ensures.0 c.if-n-lt-MOST.false c.holds.ensures
