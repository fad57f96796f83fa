-- `call_long` meets its contract: so many zeros. Assumes nothing.
use Rattle.bench_log.proofs.Steps.{zeros}
use Rattle.bench_log.proofs.call_long.Goals as goal

pub returns : goal.returns
returns c = rw (zeros c.args.len 255 c.requires) at c.frame.ensures
