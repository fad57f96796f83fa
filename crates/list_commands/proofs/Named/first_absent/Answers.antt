-- `list_commands::Named::first_absent` meets its contract: a loop over the pairs and in it one over the entries, left at the first that is absent. Assumes nothing.
use mathlib.Core.Path.{◌≡◌, sym, ◌∙◌}
use Prim.Native.Nat.{◌+◌, ◌-◌}
use native.Mathlib.Omega.{arith}
use Rattle.list_commands.proofs.Searching.{held_one, searched_one, stopped_here}
use Rattle.list_commands.proofs.Named.first_absent.Goals as goal

pub loop-entry-preserved : goal.loop-entry-preserved
loop-entry-preserved c = held_one _ c.loop-entry.invariant (omega (arith, c.count-entry-end.ensures)) (rw (← c.entry_at-pgn.ensures) (sym c.lists.ensures ∙ c.if-not-lists.false))

pub loop-pair-preserved : goal.loop-pair-preserved
loop-pair-preserved c = searched_one c.loop-pair.invariant (omega arith) c.loop-entry.invariant (omega (arith, c.count-entry-end.ensures))

pub returns-then-not-lists : goal.returns-then-not-lists
returns-then-not-lists c =
    let e : (c.loop-entry.entry + 1) - 1 ≡ c.loop-entry.entry = omega arith in
    (rw e (stopped_here c.loop-pair.invariant (omega arith) c.loop-entry.invariant (omega (arith, c.count-entry-end.ensures)) (rw (← c.entry_at-pgn.ensures) (sym c.lists.ensures ∙ c.if-not-lists.true))), omega arith, omega arith, rw e c.entry_at-pgn.ensures)
