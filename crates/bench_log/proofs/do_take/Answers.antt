-- `do_take` meets its contract: the call, then its line. Assumes nothing.
use Rattle.bench_log.proofs.Steps.{take_done}
use Rattle.bench_log.proofs.do_take.Goals as goal

pub returns : goal.returns
returns c = take_done c.take-r.ensures c.put_take.ensures
