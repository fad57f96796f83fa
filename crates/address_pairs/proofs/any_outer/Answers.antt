-- `address_pairs::any_outer` meets its contract: one table after the other. Assumes nothing.
use Rattle.std.proofs.Common.{rules, tests, ◌∙◌}
use Rattle.std.proofs.lemmas.Iterator.{YieldsList-from_slice}
use Rattle.std.proofs.lemmas.Iterator.Search.{any_from_yields_List}
use Rattle.address_pairs.specs.AddressPairs.{outer_side, stands, pairs_of}
use Rattle.address_pairs.proofs.Tables.{any_is}
use Rattle.address_pairs.proofs.any_outer.Goals as goal

pub returns : goal.returns
returns c =
    let address = c.args.address in
    rw (← c.whole.ensures.value)
    (any_from_yields_List (λ p. stands outer_side (pairs_of p) address) _ _ c.any.result c.any.ensures.ran
    (YieldsList-from_slice c.whole.result.now c.iter.ensures.rest) (λ x b q k. search (rules, tests))
    ∙ any_is address c.whole.result.now)
