-- `session::write_out` meets its contract: the bytes of each packet are stored behind those before them. Assumes nothing.
use Rattle.std.proofs.Common.{◌≡◌, arith, ◌*◌, min, length}
use Rattle.session.specs.Session.{session_of, message}
use Rattle.session.proofs.Bytes.{message_long, written_none, write_step, write_done}
use Rattle.session.proofs.write_out.Goals as goal

pub loop-k-init : goal.loop-k-init
loop-k-init c =
    let z : min 0 c.min-n.result ≡ 0 = omega arith in
    rw z (written_none (message (session_of c.args.block.now)) c.args.out.now)

pub loop-k-preserved : goal.loop-k-preserved
loop-k-preserved c =
    let block = c.args.block.now in
    let long : c.min-n.result ≡ length (message (session_of block)) = omega (arith, message_long (session_of block)) in
    write_step block c.loop-k.k c.min-n.result c.min-end.result (omega arith) long (omega arith) c.loop-k-test.true c.min-end.ensures
    c.to_le_bytes.ensures c.copy_from_slice.ensures.after c.loop-k.invariant

pub returns : goal.returns
returns c =
    let block = c.args.block.now in
    let long : c.min-n.result ≡ length (message (session_of block)) = omega (arith, message_long (session_of block)) in
    let end : min (7 * c.loop-k.k) c.min-n.result ≡ c.min-n.result = omega arith in
    write_done block long (omega arith) (rw end at c.loop-k.invariant)
