-- `data_in` meets its contract. The invariant: the bytes behind the place are packed. Assumes nothing.
use mathlib.Core.Path.{◌≡◌}
use Prim.Native.Nat.{◌*◌, ◌≤◌}
use lib.ListN.{drop, take}
use Rattle.storage.specs.Bytes.{packed}
use Rattle.text.specs.Digits.{hex_bytes}
use Rattle.candump.proofs.data_in.Given as goal

abbrev pub invariant-loop-i : goal.invariant-loop-i
invariant-loop-i l = (l.i ≤ l.len) × (l.word ≡ packed (drop l.i (hex_bytes (take (2 * l.len) (drop 15 l.rest)))))

abbrev pub decreases-loop-i : goal.decreases-loop-i
decreases-loop-i l = l.i
