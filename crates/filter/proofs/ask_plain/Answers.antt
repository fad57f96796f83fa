-- `filter::ask_plain` meets its contract: a permanent PGN and a cleared pair ask no list; else the search answers. Assumes nothing.
use mathlib.Core.Path.{sym, ◌∙◌}
use native.Mathlib.Omega.{arith}
use Rattle.filter.proofs.Asking.{ask_permanent, ask_cleared, ask_listed}
use Rattle.filter.proofs.ask_plain.Goals as goal

pub returns-then-is_permanent : goal.returns-then-is_permanent
returns-then-is_permanent c = ((λ sender. ask_permanent (sym c.is_permanent.ensures ∙ c.if-is_permanent.true)), omega arith)

pub returns-then-mode-eq-CLEARED : goal.returns-then-mode-eq-CLEARED
returns-then-mode-eq-CLEARED c = ((λ sender. ask_cleared sender (sym c.is_permanent.ensures ∙ c.if-is_permanent.false) c.if-mode-eq-CLEARED.true), omega arith)

pub returns : goal.returns
returns c = let F = c.probe-plain.ensures in
    ((λ sender. ask_listed _ _ (sym c.is_permanent.ensures ∙ c.if-is_permanent.false) F sender c.requires.1 c.by_list.ensures), F.few)
