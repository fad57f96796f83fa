-- `filter::by_list` meets its contract, by the tests on the way. Assumes nothing.
use mathlib.Core.Bool.{true, false}
use mathlib.Core.Path.{sym, ◌∙◌}
use Rattle.filter.proofs.Meaning.{reason_cleared, reason_block, reason_pass}
use Rattle.filter.proofs.by_list.Goals as goal

pub returns-then-mode-eq-CLEARED : goal.returns-then-mode-eq-CLEARED
returns-then-mode-eq-CLEARED c = λ es ns ss. reason_cleared es ns ss c.args.here c.if-mode-eq-CLEARED.true

pub returns-then-here : goal.returns-then-here
returns-then-here c = λ es ns ss. rw c.if-here.true (reason_block c.args.mode es ns ss true (sym c.is_block.ensures ∙ c.if-is_block.true))

pub returns-then-is_block : goal.returns-then-is_block
returns-then-is_block c = λ es ns ss. rw c.if-here.false (reason_block c.args.mode es ns ss false (sym c.is_block.ensures ∙ c.if-is_block.true))

pub returns-then-here-2 : goal.returns-then-here-2
returns-then-here-2 c = λ es ns ss. rw c.if-here-2.true (reason_pass c.args.mode es ns ss true c.if-mode-eq-CLEARED.false (sym c.is_block.ensures ∙ c.if-is_block.false))

pub returns : goal.returns
returns c = λ es ns ss. rw c.if-here-2.false (reason_pass c.args.mode es ns ss false c.if-mode-eq-CLEARED.false (sym c.is_block.ensures ∙ c.if-is_block.false))
