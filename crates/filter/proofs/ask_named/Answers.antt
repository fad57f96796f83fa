-- `filter::ask_named` meets its contract: a permanent PGN asks no list; else the search found it, or the NAME entries decide. Assumes nothing.
use mathlib.Core.Path.{sym, ◌∙◌}
use Rattle.filter.proofs.Asking.{ask_permanent, ask_found, ask_names}
use Rattle.filter.proofs.ask_named.Goals as goal

pub returns-then-is_permanent : goal.returns-then-is_permanent
returns-then-is_permanent c = ask_permanent (sym c.is_permanent.ensures ∙ c.if-is_permanent.true)

pub returns-then-plain : goal.returns-then-plain
returns-then-plain c = ask_found _ _ (sym c.is_permanent.ensures ∙ c.if-is_permanent.false) c.probe-plain.ensures c.if-plain.true c.by_list.ensures

pub returns : goal.returns
returns c = ask_names _ _ (sym c.is_permanent.ensures ∙ c.if-is_permanent.false) c.probe-plain.ensures c.if-plain.false c.requires.1 c.search-names.ensures c.by_list-2.ensures
