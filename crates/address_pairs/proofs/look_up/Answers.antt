-- `address_pairs::look_up` meets its contract: the pairs are searched, and the other side is read. Assumes nothing.
use Rattle.std.proofs.Common.{ℕ, ◌-◌, arith, rules, tests, ap, ◌∙◌, Option, Some}
use Rattle.std.proofs.lemmas.Iterator.{YieldsList-from_slice}
use Rattle.std.proofs.lemmas.Iterator.Search.{find_from_yields_List}
use Rattle.address_pairs.proofs.Looking.{has, side_is, look_up_found}
use Rattle.address_pairs.proofs.look_up.Goals as goal

pub returns-in_err-pair : goal.returns-in_err-pair
returns-in_err-pair c =
    let a = c.args in
    let found = find_from_yields_List (has a.from a.address) _ _ c.find.result c.find.ensures.ran (YieldsList-from_slice c.pairs.result.now c.iter.ensures.rest) (λ x b q k. search (rules, tests)) in
    c.from_residual.ensures ∙ look_up_found a.from (1 - a.from) a.address c.pairs.result.now c.pairs.ensures (rw c.in_err-pair.was at found)

pub returns : goal.returns
returns c =
    let a = c.args in
    let found = find_from_yields_List (has a.from a.address) _ _ c.find.result c.find.ensures.ran (YieldsList-from_slice c.pairs.result.now c.iter.ensures.rest) (λ x b q k. search (rules, tests)) in
    ap {B = Option ℕ} Some (c.address_in.ensures ∙ side_is c.in_ok-pair.pair.now (1 - a.from) (omega arith))
    ∙ look_up_found a.from (1 - a.from) a.address c.pairs.result.now c.pairs.ensures (rw c.in_ok-pair.was at found)
