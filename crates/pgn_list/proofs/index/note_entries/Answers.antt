-- `pgn_list::index::note_entries` meets its contract: an entry is noted at each turn. Assumes nothing.
use mathlib.Core.Path.{◌≡◌, refl, sym}
use native.Mathlib.Omega.{arith}
use lib.ListN.{length}
use Rattle.std.specs.Prelude.{map}
use Rattle.storage.specs.Bytes.{packed}
use Rattle.pgn_list.proofs.Changes.{entry_here}
use Rattle.pgn_list.proofs.Slots.{indexed_one}
use Rattle.pgn_list.proofs.index.note_entries.Goals as goal

pub loop-i-preserved : goal.loop-i-preserved
loop-i-preserved c = let es = c.args.entries.now in
    rw c.note.ensures (indexed_one (map packed es) c.loop-i.invariant (λ j h. refl) (sym (entry_here es (omega arith) c.number.ensures)) (omega arith) (omega arith))

pub returns : goal.returns
returns c = let e : length c.args.entries.now ≡ c.loop-i.i = omega arith in
    rw e c.loop-i.invariant
