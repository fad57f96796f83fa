-- `replies::reply_parameter` meets its contract: a run of three stores from the third byte on, and the two first bytes. Assumes nothing.
use mathlib.Core.Path.{◌∙◌, refl}
use mathlib.Core.List.{◌∷◌}
use native.Mathlib.Omega.{arith}
use lib.ListN.{length-set}
use Rattle.storage.specs.Bytes.{bytes_of}
use Rattle.replies.specs.Replies.{parameter_reply}
use Rattle.replies.proofs.Writing.{headed, stored}
use Rattle.replies.proofs.reply_parameter.Goals as goal

pub bounds-reply-3 : goal.bounds-reply-3
bounds-reply-3 c = simp length-set (omega arith)

pub bounds-reply-4 : goal.bounds-reply-4
bounds-reply-4 c = simp length-set (omega arith)

pub shape_of-reply : goal.shape_of-reply
shape_of-reply c = c.finish.auto.reply ∙ simp length-set

pub returns : goal.returns
unfolding parameter_reply bytes_of
returns c = let a = c.args in
    let body = a.parameter ∷ bytes_of 2 a.value in
    let L = stored a.reply.now body (omega arith) in
    headed a.reply.now body (omega arith) L refl a.function a.named (rw (c.byte_at.ensures, c.byte_at-2.ensures) at c.finish.ensures)
