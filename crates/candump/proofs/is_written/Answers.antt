-- `is_written` meets its contract: the line is written anew and compared. Assumes nothing.
use native.Mathlib.Omega.{arith}
use mathlib.Core.Path.{ap}
use lib.ListN.{length}
use Rattle.candump.proofs.Lines.{put_whole}
use Rattle.candump.proofs.is_written.Goals as goal

pub slice_bounds-is_alike-end : goal.slice_bounds-is_alike-end
slice_bounds-is_alike-end c = let long = ap length (put_whole c.put-end.ensures) in
    omega (arith, c.put-end.ensures.next, long)

pub returns : goal.returns
returns c = rw (put_whole c.put-end.ensures) at c.is_alike.ensures
