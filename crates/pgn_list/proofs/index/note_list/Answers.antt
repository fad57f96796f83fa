-- `pgn_list::index::note_list` meets its contract: a number is noted at each turn. Assumes nothing.
use mathlib.Core.Path.{◌≡◌, refl}
use native.Mathlib.Omega.{arith}
use lib.ListN.{length}
use Rattle.pgn_list.proofs.Slots.{indexed_one}
use Rattle.pgn_list.proofs.index.note_list.Goals as goal

pub loop-i-preserved : goal.loop-i-preserved
loop-i-preserved c = rw c.note.ensures (indexed_one c.args.list.now c.loop-i.invariant (λ j h. refl) refl (omega arith) (omega arith))

pub returns : goal.returns
returns c = let e : length c.args.list.now ≡ c.loop-i.i = omega arith in
    rw e c.loop-i.invariant
