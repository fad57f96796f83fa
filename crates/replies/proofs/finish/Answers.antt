-- `replies::finish` meets its contract: two stores, and the filling. Assumes nothing.
use mathlib.Core.Path.{◌∙◌}
use native.Mathlib.Omega.{arith}
use lib.ListN.{length-set}
use Rattle.replies.proofs.Writing.{finished}
use Rattle.replies.proofs.finish.Goals as goal

pub bounds-reply-1 : goal.bounds-reply-1
bounds-reply-1 c = simp length-set (omega arith)

pub fill-requires : goal.fill-requires
fill-requires c = simp length-set (omega arith, omega arith)

pub shape_of-reply : goal.shape_of-reply
shape_of-reply c = c.fill.auto.reply ∙ simp length-set

pub returns : goal.returns
returns c = finished c.args.reply.now c.args.function c.args.named c.requires.1 (omega arith) c.fill.ensures
