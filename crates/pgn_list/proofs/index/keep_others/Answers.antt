-- `pgn_list::index::keep_others` meets its contract: the walk of `keep_others_by_search`, with an index of the entries. Assumes nothing.
use native.Mathlib.Omega.{arith}
use Rattle.pgn_list.proofs.Slots.{indexed_none}
use Rattle.pgn_list.proofs.Changes.{kept_none, kept_not, kept_one, kept_all}
use Rattle.pgn_list.proofs.index.keep_others.Goals.{else-not-names, then-not-names}
use Rattle.pgn_list.proofs.index.keep_others.Goals as goal

pub note_entries-requires : goal.note_entries-requires
note_entries-requires c = indexed_none c.empty-index.ensures

pub loop-i-init : goal.loop-i-init
loop-i-init c = (omega arith, kept_none)

pub names-requires : goal.names-requires
names-requires c = c.note_entries.ensures

pub loop-i-preserved : goal.loop-i-preserved
loop-i-preserved c = (
  omega arith,
  elim c.if-not-names.branch [ then-not-names w ↦ rw (w.list-is, w.kept-is) (kept_one c.requires c.loop-i.invariant.1 (omega arith) c.names.ensures w.if-not-names.true) | else-not-names w ↦ rw (w.list-is, w.kept-is) (kept_not c.requires c.loop-i.invariant.1 (omega arith) c.names.ensures w.if-not-names.false) ],
)

pub shape_of-list : goal.shape_of-list
shape_of-list c = c.loop-i.invariant.1.long

pub returns : goal.returns
returns c = kept_all c.requires c.loop-i.invariant.1 (omega arith)
