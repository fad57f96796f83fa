-- `filter_commands::sort_in` meets its contract: one PGN after the other is put in. Assumes nothing.
use Prim.Native.Nat.{◌≤◌}
use Rattle.filter_commands.proofs.Sorting.{PutTo}
use Rattle.filter_commands.proofs.sort_in.Given as goal

abbrev pub invariant-loop-i : goal.invariant-loop-i
invariant-loop-i l = (l.n ≤ l.i) × (l.i ≤ l.held) × PutTo l.initial.block l.n l.block l.i
