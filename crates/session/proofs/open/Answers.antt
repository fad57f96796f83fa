-- `session::open` meets its contract: eight words are stored. Assumes nothing.
use Rattle.std.proofs.Common.{◌≡◌, arith, rules}
use Rattle.session.specs.Way.{word_in}
use Rattle.session.proofs.Laws.{opens, word_in_small}
use Rattle.session.proofs.open.Goals as goal

pub returns : goal.returns
returns c =
    let o = c.args.opening in
    let e : c.map_or.result ≡ word_in o.way = search rules in
    rw e
    (opens c.args.block.now (omega arith) (word_in o.way) o.peer o.size o.through o.limit o.timer o.since (word_in_small o.way) (omega arith) o.short o.few)
