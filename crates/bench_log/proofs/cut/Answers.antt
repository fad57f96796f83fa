-- `cut` meets its contract: by whether anything follows. Assumes nothing.
use Rattle.bench_log.proofs.Steps.{cut_last, cut_more}
use Rattle.bench_log.proofs.cut.Goals as goal

pub returns-then-last : goal.returns-then-last
returns-then-last c = cut_last c.if-last.true (rw c.number.ensures at c.put_refused-written.ensures)

pub returns : goal.returns
returns c = cut_more c.if-last.false
