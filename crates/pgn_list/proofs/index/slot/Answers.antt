-- `pgn_list::index::slot` meets its contract. Assumes nothing.
use borrow.Author.Rules.{rules}
use Rattle.pgn_list.specs.Slots.{slot_of}
use Rattle.pgn_list.proofs.index.slot.Goals as goal

pub returns : goal.returns
unfolding slot_of
returns c = search rules
