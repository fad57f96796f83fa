-- `pgn_list::index::extend` meets its contract: the walk of `extend_by_search`, with an index that notes what joins the end. Assumes nothing.
use mathlib.Core.Path.{refl, sym, ◌∙◌}
use native.Mathlib.Omega.{arith}
use Rattle.storage.proofs.Walk.{left_all}
use Rattle.pgn_list.proofs.Slots.{indexed_none, indexed_new, indexed_front, indexed_back}
use Rattle.pgn_list.proofs.Changes.{entry_here, entries_long, held_listed, held_new, held_over, held_all}
use Rattle.pgn_list.proofs.index.extend.Goals.{else-not-is_listed, then-not-is_listed+else-held-eq-LIST_SIZE}
use Rattle.pgn_list.proofs.index.extend.Goals as goal

pub note_list-requires : goal.note_list-requires
note_list-requires c = indexed_none c.empty-index.ensures

pub loop-entry-init : goal.loop-entry-init
loop-entry-init c = (record { left = left_all refl; few = c.requires.1; long = c.requires.0 }, indexed_back (omega arith) c.note_list.ensures)

pub is_listed-requires : goal.is_listed-requires
is_listed-requires c = indexed_front (omega arith) c.loop-entry.invariant.1

pub returns-then-held-eq-LIST_SIZE : goal.returns-then-held-eq-LIST_SIZE
returns-then-held-eq-LIST_SIZE c = let es = c.args.entries.now in
    held_over c.loop-entry.invariant.0 (omega (arith, entries_long es)) (entry_here es (omega arith) c.number-x.ensures) (sym c.is_listed.ensures ∙ c.if-not-is_listed.true) c.if-held-eq-LIST_SIZE.true

pub loop-entry-preserved : goal.loop-entry-preserved
loop-entry-preserved c = let es = c.args.entries.now in
    elim c.if-not-is_listed.branch [
      | then-not-is_listed+else-held-eq-LIST_SIZE w ↦ rw (w.list-is, w.index-is, w.held-is, w.note.ensures) (
        held_new c.loop-entry.invariant.0 (omega (arith, entries_long es)) (entry_here es (omega arith) c.number-x.ensures) (sym c.is_listed.ensures ∙ w.if-not-is_listed.true) w.if-held-eq-LIST_SIZE.false,
        indexed_new c.number-x.result c.loop-entry.invariant.1 (omega arith) (omega arith) (omega arith),
      )
      | else-not-is_listed w ↦ rw (w.list-is, w.index-is, w.held-is) (held_listed c.loop-entry.invariant.0 (omega (arith, entries_long es)) (entry_here es (omega arith) c.number-x.ensures) (sym c.is_listed.ensures ∙ w.if-not-is_listed.false), c.loop-entry.invariant.1)
    ]

pub returns : goal.returns
returns c = held_all c.loop-entry.invariant.0 (omega (arith, entries_long c.args.entries.now))
