-- `address_pairs::stands` meets its contract: it stands there if a look-up gives something. Assumes nothing.
use Rattle.std.proofs.Common.{◌-◌, ◌∙◌, ap, is_some}
use Rattle.address_pairs.specs.AddressPairs.{pairs_of}
use Rattle.address_pairs.proofs.Looking.{given_if}
use Rattle.address_pairs.proofs.stands.Goals as goal

pub returns : goal.returns
returns c =
    let a = c.args in
    c.is_some.ensures ∙ ap is_some c.look_up.ensures ∙ given_if a.side (1 - a.side) (pairs_of a.table.now) a.address
