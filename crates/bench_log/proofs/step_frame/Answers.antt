-- `step_frame` meets its contract: cut, or done. Assumes nothing.
use native.Mathlib.Omega.{arith}
use Rattle.bench_log.proofs.Steps.{at_cut, at_frame}
use Rattle.bench_records.proofs.Numbers.{number_cut_frame}
use borrow.Author.Rules.{rules}
use Rattle.bench_log.proofs.step_frame.Goals as goal

pub returns-then-log-lt-FRAME_SIZE : goal.returns-then-log-lt-FRAME_SIZE
returns-then-log-lt-FRAME_SIZE c = at_cut c.requires.0 (λ z. omega arith) (number_cut_frame c.args.log.now c.requires.1 c.if-log-lt-FRAME_SIZE.true) c.cut.ensures (search rules)

pub returns : goal.returns
returns c = at_frame c.requires.0 (λ z. omega arith) c.requires.1 c.if-log-lt-FRAME_SIZE.false c.do_frame-written.ensures (search rules)
