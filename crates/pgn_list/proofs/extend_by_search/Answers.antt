-- `pgn_list::extend_by_search` meets its contract: a walk over the entries, in which a listed one changes nothing, another joins the end, and one too many stops it. Assumes nothing.
use mathlib.Core.Path.{sym, ◌∙◌}
use native.Mathlib.Omega.{arith}
use Rattle.pgn_list.proofs.Changes.{entry_here, entries_long, held_listed, held_new, held_over, held_all}
use Rattle.pgn_list.proofs.extend_by_search.Goals.{else-not-is_listed, then-not-is_listed+else-held-eq-LIST_SIZE}
use Rattle.pgn_list.proofs.extend_by_search.Goals as goal

pub returns-then-held-eq-LIST_SIZE : goal.returns-then-held-eq-LIST_SIZE
returns-then-held-eq-LIST_SIZE c = let es = c.args.entries.now in
    held_over c.loop-entry.invariant (omega (arith, entries_long es)) (entry_here es (omega arith) c.number-x.ensures) (sym c.is_listed.ensures ∙ c.if-not-is_listed.true) c.if-held-eq-LIST_SIZE.true

pub loop-entry-preserved : goal.loop-entry-preserved
loop-entry-preserved c = let es = c.args.entries.now in
    elim c.if-not-is_listed.branch [
      | then-not-is_listed+else-held-eq-LIST_SIZE w ↦ rw (w.list-is, w.held-is) (held_new c.loop-entry.invariant (omega (arith, entries_long es)) (entry_here es (omega arith) c.number-x.ensures) (sym c.is_listed.ensures ∙ w.if-not-is_listed.true) w.if-held-eq-LIST_SIZE.false)
      | else-not-is_listed w ↦ rw (w.list-is, w.held-is) (held_listed c.loop-entry.invariant (omega (arith, entries_long es)) (entry_here es (omega arith) c.number-x.ensures) (sym c.is_listed.ensures ∙ w.if-not-is_listed.false))
    ]

pub returns : goal.returns
returns c = held_all c.loop-entry.invariant (omega (arith, entries_long c.args.entries.now))
