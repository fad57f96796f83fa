-- `step` meets its contract: by the room, the log and its kind. Assumes nothing.
use Rattle.bench_log.proofs.Steps.{no_room, at_end, at_unknown}
use Rattle.bench_records.proofs.Numbers.{number_unknown}
use borrow.Author.Rules.{rules}
use Rattle.bench_log.proofs.step.Goals as goal

pub returns-then-out-lt-LINE_ROOM : goal.returns-then-out-lt-LINE_ROOM
returns-then-out-lt-LINE_ROOM c = no_room c.if-out-lt-LINE_ROOM.true

pub returns-then-log-eq0 : goal.returns-then-log-eq0
returns-then-log-eq0 c = at_end c.if-out-lt-LINE_ROOM.false c.if-log-eq0.true

pub returns : goal.returns
returns c = at_unknown c.if-out-lt-LINE_ROOM.false c.if-log-eq0.false (number_unknown c.args.log.now c.if-kind-eq1.false c.if-kind-eq2.false) (rw c.number.ensures at c.put_refused-written.ensures) (search rules)
