-- `pgn_list::index::lists_each` meets its contract: the index begins empty. Assumes nothing.
use Rattle.pgn_list.proofs.Slots.{indexed_none}
use Rattle.pgn_list.proofs.index.lists_each.Goals as goal

pub note_list-requires : goal.note_list-requires
note_list-requires c = indexed_none c.empty-index.ensures
