-- `pgn_list::extend_by_one` meets its contract: a listed entry changes nothing, another joins the end of a list that is not full. Assumes nothing.
use mathlib.Core.Path.{refl, sym, ◌∙◌}
use Rattle.pgn_list.proofs.Changes.{one_stays, one_joins, one_over}
use Rattle.pgn_list.proofs.extend_by_one.Goals as goal

pub returns-then-is_listed : goal.returns-then-is_listed
returns-then-is_listed c = (one_stays c.requires.0 c.requires.1 (sym c.is_listed.ensures ∙ c.if-is_listed.true), tt)

pub returns-then-n-eq-LIST_SIZE : goal.returns-then-n-eq-LIST_SIZE
returns-then-n-eq-LIST_SIZE c = (one_over c.args.list.now c.args.n c.args.x c.requires.0 c.requires.1 (sym c.is_listed.ensures ∙ c.if-is_listed.false) c.if-n-eq-LIST_SIZE.true, refl)

pub returns : goal.returns
returns c = (one_joins c.requires.0 c.requires.1 (sym c.is_listed.ensures ∙ c.if-is_listed.false) c.if-n-eq-LIST_SIZE.false, tt)
