-- `step_take` meets its contract: cut, or done. Assumes nothing.
use native.Mathlib.Omega.{arith}
use Rattle.bench_log.proofs.Steps.{at_cut, at_take}
use Rattle.bench_records.proofs.Numbers.{number_cut_take}
use borrow.Author.Rules.{rules}
use Rattle.bench_log.proofs.step_take.Goals as goal

pub returns-then-log-lt-TAKE_SIZE : goal.returns-then-log-lt-TAKE_SIZE
returns-then-log-lt-TAKE_SIZE c = at_cut c.requires.0 (λ z. omega arith) (number_cut_take c.args.log.now c.requires.1 c.if-log-lt-TAKE_SIZE.true) c.cut.ensures (search rules)

pub returns : goal.returns
returns c = at_take c.requires.0 (λ z. omega arith) c.requires.1 c.if-log-lt-TAKE_SIZE.false c.from-port.ensures c.do_take-written.ensures (search rules)
