-- `sessions::take_last` meets its contract: a packet more, the message written out, the session taken out. Assumes nothing.
use Rattle.std.proofs.Common.{arith}
use Rattle.session.specs.Session.{with_packet}
use Rattle.sessions.specs.Sessions.{talk_of}
use Rattle.sessions.proofs.Talk.{lent}
use Rattle.sessions.proofs.Steps.{still, takes_last}
use Rattle.sessions.proofs.take_last.Goals as goal

pub returns : goal.returns
returns c =
    let same = still (talk_of c.args.port.now) c.args.i (with_packet c.args.word) c.store.ensures in
    takes_last c.args.port.now c.store.new.port c.args.i c.args.word c.requires.0 c.store.ensures
    (lent c.open_blocks.result.now c.args.i c.open_blocks.ensures.value (omega arith)) c.write_out-n.ensures c.close.ensures
