-- `deorasaeng_counts` meets its contract, by what `bridge::counts` ensures. Assumes nothing.
use Rattle.std.specs.Prelude.{refl}
use Rattle.deorasaeng.proofs.Calls.{not_none, counts_wrong, counts_refused_lem, counts_done}
use Rattle.deorasaeng.proofs.deorasaeng_counts.Goals as goal

pub returns-then-answer-ne-COUNTS_WORDS : goal.returns-then-answer-ne-COUNTS_WORDS
returns-then-answer-ne-COUNTS_WORDS c = counts_wrong c.lent_refusal.ensures c.if-answer-ne-COUNTS_WORDS.true

pub returns-in-Ok : goal.returns-in-Ok
returns-in-Ok c = counts_done (rw c.in-Ok.is at c.counts.ensures) c.if-answer-ne-COUNTS_WORDS.false refl c.tell_counts.ensures

pub returns-in-Err : goal.returns-in-Err
returns-in-Err c = rw c.number.ensures (counts_refused_lem (rw c.in-Err.is at c.counts.ensures) c.if-answer-ne-COUNTS_WORDS.false (not_none _))
