-- `replies::put_list` meets its contract: the mode, then the entries. The loop's invariant is `Entered`. Assumes nothing.
use mathlib.Core.Path.{◌∙◌}
use native.Mathlib.Omega.{arith}
use lib.ListN.{length-set}
use Rattle.replies.proofs.Laying.{laid_long}
use Rattle.replies.proofs.Writing.{entered_none, entered_one, list_written}
use Rattle.replies.proofs.put_list.Goals as goal

pub loop-i-init : goal.loop-i-init
loop-i-init c = entered_none (simp length-set (omega arith))

pub pgn_at-requires : goal.pgn_at-requires
pgn_at-requires c = (omega arith, omega arith)

pub put_entry-requires : goal.put_entry-requires
put_entry-requires c = omega (arith, laid_long c.loop-i.invariant.laid, length-set c.args.out.now 0 c.reported_mode.result)

pub loop-i-preserved : goal.loop-i-preserved
loop-i-preserved c = rw (c.put_entry.ensures, c.pgn_at.ensures)
    (entered_one (omega (arith, length-set c.args.out.now 0 c.reported_mode.result)) c.loop-i.invariant (omega arith))

pub shape_of-out : goal.shape_of-out
shape_of-out c = laid_long c.loop-i.invariant.laid ∙ simp length-set

pub returns : goal.returns
returns c = list_written c.count-n.ensures c.reported_mode.ensures (omega arith) (omega arith) c.loop-i.invariant
