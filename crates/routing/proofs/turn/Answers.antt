-- `routing::turn` meets its contract: by which address turns, if one does, and its entry. Assumes nothing.
use Rattle.std.proofs.Common.{◌≡◌, sym, ◌∙◌, arith}
use Rattle.identifier.specs.Turning.{with_source, with_destination}
use Rattle.address_pairs.specs.AddressPairs.{tables_of}
use Rattle.routing.proofs.Turning.{source_ports, destination_ports, by_none, by_some, by_source, by_destination, as_it_came}
use Rattle.routing.proofs.turn.Goals as goal

pub out_of-requires : goal.out_of-requires
out_of-requires c =
    let a = c.args in
    let other : a.from ≡ 1 → ⊥ = (source_ports a.from a.to (sym c.turns_source.ensures ∙ c.if-turns_source.true)).0 in
    (omega (arith, c.requires.0), c.requires.2)

pub returns-in_err-outer : goal.returns-in_err-outer
returns-in_err-outer c =
    let a = c.args in
    c.from_residual.ensures
    ∙ by_none (with_source a.id) (rw (c.in_err-outer.was, c.sa.ensures) at c.out_of.ensures)
    ∙ sym (by_source (tables_of a.tables.now) a.from a.to a.id (sym c.turns_source.ensures ∙ c.if-turns_source.true))

pub returns-then-turns_source : goal.returns-then-turns_source
returns-then-turns_source c =
    let a = c.args in
    by_some (with_source a.id) (rw (c.in_ok-outer.was, c.sa.ensures) at c.out_of.ensures) c.with_source.ensures
    ∙ sym (by_source (tables_of a.tables.now) a.from a.to a.id (sym c.turns_source.ensures ∙ c.if-turns_source.true))

pub in_to-requires : goal.in_to-requires
in_to-requires c =
    let a = c.args in
    let other : a.to ≡ 1 → ⊥ = (destination_ports a.from a.to a.id (sym c.turns_destination.ensures ∙ c.if-turns_destination.true)).1 in
    (omega (arith, c.requires.1), c.requires.3)

pub returns-in_err-inner : goal.returns-in_err-inner
returns-in_err-inner c =
    let a = c.args in
    c.from_residual-in_err-inner.ensures
    ∙ by_none (with_destination a.id) (rw (c.in_err-inner.was, c.ps.ensures) at c.in_to.ensures)
    ∙ sym
    (by_destination (tables_of a.tables.now) a.from a.to a.id (sym c.turns_source.ensures ∙ c.if-turns_source.false)
    (sym c.turns_destination.ensures ∙ c.if-turns_destination.true))

pub returns-then-turns_destination : goal.returns-then-turns_destination
returns-then-turns_destination c =
    let a = c.args in
    by_some (with_destination a.id) (rw (c.in_ok-inner.was, c.ps.ensures) at c.in_to.ensures) c.with_destination.ensures
    ∙ sym
    (by_destination (tables_of a.tables.now) a.from a.to a.id (sym c.turns_source.ensures ∙ c.if-turns_source.false)
    (sym c.turns_destination.ensures ∙ c.if-turns_destination.true))

pub returns : goal.returns
returns c =
    let a = c.args in
    sym
    (as_it_came (tables_of a.tables.now) a.from a.to a.id (sym c.turns_source.ensures ∙ c.if-turns_source.false)
    (sym c.turns_destination.ensures ∙ c.if-turns_destination.false))
