-- `sessions::is_busy` meets its contract: how many are open, then a search. Assumes nothing.
use Rattle.std.proofs.Common.{arith, ap, ◌∙◌, length, is_some}
use borrow.Author.Tests.{le-leb, lt-leb}
use Rattle.sessions.specs.Sessions.{talk_of, is_with}
use Rattle.sessions.proofs.Search.{place_is_some}
use Rattle.sessions.proofs.is_busy.Goals as goal

pub returns-then-count-ge-MOST : goal.returns-then-count-ge-MOST
returns-then-count-ge-MOST c =
    let n = c.count.ensures.0 in
    rw (le-leb 4 c.count.result (omega arith), le-leb 4 (length (talk_of c.args.port.now)) (omega arith))

pub returns-else-count-ge-MOST : goal.returns-else-count-ge-MOST
returns-else-count-ge-MOST c =
    let n = c.count.ensures.0 in
    rw (lt-leb 4 (length (talk_of c.args.port.now)) (omega arith))
    (c.is_some.ensures ∙ ap is_some c.find.ensures.place ∙ place_is_some (is_with 2 c.args.peer) (talk_of c.args.port.now))
