-- `is_alike` meets its contract. The invariant: what is passed fits. Assumes nothing.
use mathlib.Core.Path.{◌≡◌}
use Prim.Native.Nat.{◌-◌, ◌≤◌}
use lib.ListN.{length, drop}
use Rattle.candump.specs.Line.{alike}
use Rattle.candump.proofs.is_alike.Given as goal

abbrev pub invariant-loop-i : goal.invariant-loop-i
invariant-loop-i l = (l.i ≤ length l.line) × (length l.line ≡ length l.characters) × (alike 19 l.line l.characters ≡ alike (19 - l.i) (drop l.i l.line) (drop l.i l.characters))

abbrev pub decreases-loop-i : goal.decreases-loop-i
decreases-loop-i l = length l.line - l.i
