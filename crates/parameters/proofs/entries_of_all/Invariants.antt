-- `parameters::entries_of_all` meets its contract: the loop's sum is that of the lists passed. Assumes nothing.
use mathlib.Core.Path.{◌≡◌}
use Prim.Native.Nat.{◌*◌, ◌≤◌}
use Rattle.pgn_list.specs.PgnList.{list_size}
use Rattle.unit.specs.Ports.{total}
use Rattle.unit.specs.Model.{model_of}
use Rattle.parameters.specs.Parameters.{entries_at}
use Rattle.parameters.proofs.entries_of_all.Given as goal

abbrev pub invariant-loop-i : goal.invariant-loop-i
invariant-loop-i l = (l.sum ≡ total (entries_at (model_of l.ports l.words).rest) l.i) × (l.sum ≤ list_size * l.i)
