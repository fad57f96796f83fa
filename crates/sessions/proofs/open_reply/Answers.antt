-- `sessions::open_reply` meets its contract: a session opens, then its packets are there. Assumes nothing.
use Rattle.std.proofs.Common.{arith, length}
use Rattle.session.specs.Session.{with_packets, opened}
use Rattle.packets.specs.Words.{cut_words}
use Rattle.sessions.specs.Heard.{T3}
use Rattle.sessions.specs.Sessions.{talk_of}
use Rattle.sessions.proofs.Steps.{sends, one_more_lem}
use Rattle.sessions.proofs.open_reply.Goals as goal

pub fill-requires : goal.fill-requires
fill-requires c =
    let long = one_more_lem (talk_of c.args.port.now) (opened 2 c.args.peer (length c.args.bytes.now) 0 0 T3 c.args.time) c.open.ensures in
    let n = c.count-n.ensures.0 in
    (omega arith, c.requires.1)

pub returns : goal.returns
returns c =
    sends (talk_of c.args.port.now) (opened 2 c.args.peer (length c.args.bytes.now) 0 0 T3 c.args.time) (with_packets (cut_words c.args.bytes.now))
    c.count-n.result c.count-n.ensures.0 c.open.ensures c.fill.ensures
