-- `pgn_list::index::note` meets its contract: a slot is inside. Assumes nothing.
use native.Mathlib.Omega.{arith}
use Rattle.pgn_list.proofs.Slots.{slot_small}
use Rattle.pgn_list.proofs.index.note.Goals as goal

pub bounds-index-slot : goal.bounds-index-slot
bounds-index-slot c = omega (arith, slot_small c.args.x, c.slot.ensures)
