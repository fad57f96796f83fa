-- `list_commands::where_absent` meets its contract: the search stopped at the first pair that lacks an entry, and at that entry. Assumes nothing.
use mathlib.Core.Path.{refl, ap}
use Rattle.std.specs.Prelude.{Some}
use Rattle.list_commands.proofs.Searching.{absent_found, none_absent}
use Rattle.list_commands.proofs.where_absent.Goals as goal

pub returns-in_err-stop : goal.returns-in_err-stop
returns-in_err-stop c = λ lacking. absurd (none_absent c.pairs_named.ensures.0 _ _ c.in_err-stop.ensures (rw (← c.pairs_named.ensures.1) at lacking))

pub returns : goal.returns
returns c = λ lacking.
    let S = c.in_ok-stop.ensures in
    let e = c.pairs_named.ensures.1 in
    let port = rw (c.first_pair.ensures.0, ← e) at c.leads_to.ensures in
    rw (← e) (ap Some (absent_found c.pairs_named.ensures.0 S.0 (rw (← e) at lacking) _ _ _ refl S.2 S.3 port))
