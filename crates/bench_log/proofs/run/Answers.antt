-- `run` meets its contract: the steps so far are a run once the rest is run behind them. Assumes nothing.
use native.Mathlib.Omega.{arith}
use borrow.Author.Rules.{rules}
use borrow.Author.Tests.{lt-ltb, le-ltb}
use Rattle.bench_records.proofs.Turns.{part_long}
use Rattle.bench_log.proofs.Pieces.{going_none, going_step, going_on, going_done}
use Rattle.bench_log.proofs.run.Goals as goal

pub steps-init : goal.steps-init
steps-init c = going_none

pub overflow_add-used : goal.overflow_add-used
overflow_add-used c = let log = c.args.log.now in
    let loop = c.steps in
    record { fits = omega (arith, part_long log loop.used, c.step-s.ensures.fits, loop.invariant.passed.fits) }

pub overflow_add-written : goal.overflow_add-written
overflow_add-written c = let loop = c.steps in
    record { fits = omega (arith, part_long loop.out loop.written, c.step-s.ensures.near, loop.invariant.passed.near, loop.invariant.passed.same) }

pub steps-smaller : goal.steps-smaller
steps-smaller c = let log = c.args.log.now in
    let loop = c.steps in
    omega (arith, part_long log loop.used, c.step-s.ensures.fits, loop.invariant.passed.fits, c.if-s-eq0.false)

pub steps-preserved : goal.steps-preserved
steps-preserved c = going_on (rw (lt-ltb 0 c.step-s.result.used (omega (arith, c.if-s-eq0.false))) at (going_step c.steps.invariant c.step-s.ensures (search rules)))

pub returns-then-s-eq0 : goal.returns-then-s-eq0
returns-then-s-eq0 c = going_done (rw (le-ltb 0 c.step-s.result.used (omega (arith, c.if-s-eq0.true))) at (going_step c.steps.invariant c.step-s.ensures (search rules)))
