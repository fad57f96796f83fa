-- `call_frame` meets its contract: the parts of the record. Assumes nothing.
use Rattle.bench_log.proofs.Steps.{long_bytes, short_bytes}
use Rattle.bench_log.proofs.call_frame.Goals as goal

pub returns-then-len-gt8 : goal.returns-then-len-gt8
returns-then-len-gt8 c = let log = c.args.log.now in
    rw (c.from-port.ensures, c.id_of-id.ensures, long_bytes log c.from-len.result c.from-len.ensures c.if-len-gt8.true) at c.call_long.ensures

pub returns : goal.returns
returns c = let log = c.args.log.now in
    rw (c.from-port.ensures, c.id_of-id.ensures, short_bytes log c.from-len.result c.from-len.ensures c.if-len-gt8.false) at c.frame.ensures
