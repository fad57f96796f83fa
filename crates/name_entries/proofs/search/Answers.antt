-- `name_entries::search` meets its contract: by whether the sender is known, and by the place where the search stopped. Assumes nothing.
use mathlib.Core.Path.{sym, ◌∙◌}
use Rattle.name_entries.proofs.Matching.{search_none, search_found, search_past}
use Rattle.name_entries.proofs.search.Goals as goal

pub returns-in_default : goal.returns-in_default
returns-in_default c = rw c.in_default.is (search_none c.args.block.now c.count-n.ensures.0)

pub returns-in_default-first_match : goal.returns-in_default-first_match
returns-in_default-first_match c = let es = c.first_entries in
    rw c.in-Some.is
    (search_past c.args.block.now c.count-n.ensures.0 es.result.now es.ensures.0 es.ensures.1 (sym c.first_match.ensures ∙ c.in_default-first_match.is))

pub returns : goal.returns
returns c = let es = c.first_entries in
    rw c.in-Some.is
    (search_found c.args.block.now c.count-n.ensures.0 es.result.now es.ensures.0 es.ensures.1 (sym c.first_match.ensures ∙ c.in-Some-first_match.is))
