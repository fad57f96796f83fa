-- `filter::pgn_at` meets its contract: the list stands at the front of the PGNs. Assumes nothing.
use native.Mathlib.Omega.{arith}
use Rattle.filter.proofs.Meaning.{counting, pgn_is}
use Rattle.filter.proofs.pgn_at.Goals as goal

pub overflow_add-result : goal.overflow_add-result
overflow_add-result c = omega (arith, (counting c.args.block.now c.requires.0).small)

pub offset_bounds-block-i : goal.offset_bounds-block-i
offset_bounds-block-i c = omega (arith, (counting c.args.block.now c.requires.0).small)

pub bounds-block-i : goal.bounds-block-i
bounds-block-i c = omega (arith, (counting c.args.block.now c.requires.0).small)

pub returns : goal.returns
returns c = pgn_is c.args.block.now c.args.i c.requires.0 c.requires.1
