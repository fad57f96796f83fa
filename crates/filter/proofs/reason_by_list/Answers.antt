-- `filter::reason_by_list` meets its contract: a permanent PGN is in no list's hands, else the list decides. Assumes nothing.
use mathlib.Core.Path.{sym, ◌∙◌}
use Rattle.filter.proofs.Asking.{list_permanent, list_decides}
use Rattle.filter.proofs.reason_by_list.Goals as goal

pub returns-then-is_permanent : goal.returns-then-is_permanent
returns-then-is_permanent c = list_permanent _ _ (sym c.is_permanent.ensures ∙ c.if-is_permanent.true)

pub returns : goal.returns
returns c = list_decides _ _ (sym c.is_permanent.ensures ∙ c.if-is_permanent.false) c.lists-here.ensures c.by_list.ensures
