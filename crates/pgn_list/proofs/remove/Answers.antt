-- `pgn_list::remove` meets its contract: what is behind the first place closes up. Assumes nothing.
use Rattle.pgn_list.proofs.Search.{found_or}
use Rattle.pgn_list.proofs.remove.Goals as goal

pub close_up-requires : goal.close_up-requires
close_up-requires c = (c.requires, rw (c.unwrap_or-start.ensures, c.find.ensures) (found_or c.requires))
