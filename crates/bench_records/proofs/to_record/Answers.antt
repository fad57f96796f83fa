-- `to_record` meets its contract: refused, or the record of the frame that the line is. Assumes nothing.
use mathlib.Core.Path.{sym, ◌∙◌}
use native.Mathlib.Omega.{arith}
use Rattle.bench_records.proofs.Records.{record_written, read_good}
use Rattle.bench_records.proofs.to_record.Goals as goal

pub put_record-requires : goal.put_record-requires
put_record-requires c = let good = read_good c.args.line.now (sym c.in_ok-a.was ∙ c.read_line.ensures) in
    (c.if-out-lt-FRAME_SIZE.false, omega (arith, good.last), omega (arith, good.short))

pub returns : goal.returns
returns c = record_written c.if-out-lt-FRAME_SIZE.false (sym c.in_ok-a.was ∙ c.read_line.ensures) c.put_record.ensures
