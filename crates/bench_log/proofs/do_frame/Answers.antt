-- `do_frame` meets its contract: the call, then its line. Assumes nothing.
use Rattle.bench_log.proofs.Steps.{frame_done_lem}
use Rattle.bench_log.proofs.do_frame.Goals as goal

pub returns : goal.returns
returns c = frame_done_lem c.call_frame-r.ensures c.put_frame.ensures
