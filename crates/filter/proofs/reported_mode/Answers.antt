use borrow.Author.Tests.{lt-ltb, le-ltb, eq-eqb, ne_eqb}
use Rattle.filter.specs.Filter.{filter_of}
use Rattle.filter.proofs.Meaning.{reported_test}
use Rattle.filter.proofs.reported_mode.Goals as goal

pub returns-then-mode-eq-PASS : goal.returns-then-mode-eq-PASS
unfolding filter_of
returns-then-mode-eq-PASS c = simp (reported_test, eq-eqb _ _ c.if-mode-eq-PASS.true)

pub returns-then-mode-gt-BLOCK_NAMED : goal.returns-then-mode-gt-BLOCK_NAMED
unfolding filter_of
returns-then-mode-gt-BLOCK_NAMED c = simp (reported_test, ne_eqb _ _ c.if-mode-eq-PASS.false, lt-ltb _ _ c.if-mode-gt-BLOCK_NAMED.true)

pub returns-else-mode-gt-BLOCK_NAMED : goal.returns-else-mode-gt-BLOCK_NAMED
unfolding filter_of
returns-else-mode-gt-BLOCK_NAMED c = simp (reported_test, ne_eqb _ _ c.if-mode-eq-PASS.false, le-ltb _ _ c.if-mode-gt-BLOCK_NAMED.false)
