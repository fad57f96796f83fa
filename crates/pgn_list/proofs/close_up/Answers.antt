-- `pgn_list::close_up` meets its contract: from the first place of x on, x is passed over and another moves to the end of those kept. Assumes nothing.
use mathlib.Core.Path.{refl}
use native.Mathlib.Omega.{arith}
use Rattle.pgn_list.proofs.Changes.{kept_not, kept_one, kept_all}
use Rattle.pgn_list.proofs.Removing.{kept_before, lone_other, lone_same}
use Rattle.pgn_list.proofs.close_up.Goals.{else-y-x, then-y-x}
use Rattle.pgn_list.proofs.close_up.Goals as goal

pub loop-i-init : goal.loop-i-init
loop-i-init c = (c.requires.1.inside, kept_before c.requires.0 c.requires.1)

pub loop-i-preserved : goal.loop-i-preserved
loop-i-preserved c = (
  omega arith,
  elim c.if-y-x.branch [ then-y-x w ↦ rw (w.list-is, w.kept-is) (kept_one c.requires.0 c.loop-i.invariant.1 (omega arith) (lone_other w.if-y-x.true) refl) | else-y-x w ↦ rw (w.list-is, w.kept-is) (kept_not c.requires.0 c.loop-i.invariant.1 (omega arith) (lone_same w.if-y-x.false) refl) ],
)

pub shape_of-list : goal.shape_of-list
shape_of-list c = c.loop-i.invariant.1.long

pub returns : goal.returns
returns c = kept_all c.requires.0 c.loop-i.invariant.1 (omega arith)
