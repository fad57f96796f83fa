-- `entries::first_wrong` meets its contract: a walk over the entries that stops at the first which is no PGN. Assumes nothing.
use mathlib.Core.Path.{sym, ◌∙◌}
use native.Mathlib.Omega.{arith}
use Rattle.entries.specs.Entries.{entries_of}
use Rattle.entries.proofs.ThreeBytes.{entries_count, judged_none, judged_pgn, judged_wrong, judged_all}
use Rattle.entries.proofs.first_wrong.Goals as goal

pub loop-place-init : goal.loop-place-init
loop-place-init c = judged_none (entries_of c.args.bytes.now)

pub overflow_mul-place : goal.overflow_mul-place
overflow_mul-place c = omega (arith, c.count-place-end.ensures, entries_count c.args.bytes.now, c.well_formed)

pub returns-in_default : goal.returns-in_default
returns-in_default c = judged_wrong c.args.bytes.now c.loop-place.invariant (omega (arith, c.count-place-end.ensures)) (sym c.read_entry.ensures ∙ c.in_default.is)

pub loop-place-preserved : goal.loop-place-preserved
loop-place-preserved c = judged_pgn c.args.bytes.now c.loop-place.invariant (omega (arith, c.count-place-end.ensures)) (sym c.read_entry.ensures ∙ c.in-Some.is)

pub returns : goal.returns
returns c = judged_all c.loop-place.invariant (omega (arith, c.count-place-end.ensures))
