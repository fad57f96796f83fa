-- `routing::turned` meets its contract: a claim crosses nowhere. Assumes nothing.
use mathlib.Core.Path.{sym, ◌∙◌}
use Rattle.address_pairs.specs.AddressPairs.{tables_of}
use Rattle.routing.proofs.Turning.{claim_not, no_claim}
use Rattle.routing.proofs.turned.Goals as goal

pub returns-then-is_claim : goal.returns-then-is_claim
returns-then-is_claim c = let a = c.args in
    sym (claim_not (tables_of a.tables.now) a.from a.to a.id a.len (sym c.is_claim.ensures ∙ c.if-is_claim.true))

pub returns : goal.returns
returns c = let a = c.args in
    c.turn.ensures ∙ sym (no_claim (tables_of a.tables.now) a.from a.to a.id a.len (sym c.is_claim.ensures ∙ c.if-is_claim.false))
