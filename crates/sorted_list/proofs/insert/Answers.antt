-- `sorted_list::insert` meets its contract: behind the last that is not above it there is room, where it is stored. Assumes nothing.
use Rattle.sorted_list.proofs.Moves.{joins}
use Rattle.sorted_list.proofs.insert.Goals as goal

pub returns : goal.returns
returns c = joins c.args.list.now c.args.n c.args.x c.requires.0 c.requires.1 c.make_room-at.ensures
