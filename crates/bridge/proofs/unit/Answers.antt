-- `bridge::unit` meets its contract, by what reading the unit ensures; its number of ports is the record's. Assumes nothing.
use mathlib.Core.Path.{◌≡◌, sym, ap, ◌∙◌}
use native.Mathlib.Omega.{arith}
use Rattle.std.proofs.Common.{rules}
use lib.ListN.{length}
use Rattle.checks.specs.Refusals.{number}
use Rattle.checks.proofs.Refusals.{number_positive}
use Rattle.refusals.proofs.Checks.{length_stops, length_goes}
use Rattle.unit.specs.declared.Unit.{Unit}
use Rattle.unit.specs.Model.{model_of}
use Rattle.unit.proofs.Own.{own_ports}
use Rattle.bridge.specs.Told.{UnitTold, unit_told}
use Rattle.bridge.proofs.Answers.{unit_short, unit_read}
use Rattle.bridge.proofs.unit.Goals as goal

pub returns-in_err-check_length : goal.returns-in_err-check_length
returns-in_err-check_length c =
    let told : unit_told c.from_residual.result ≡ UnitTold.Refused (number c.in_err-check_length.field-0.0) = search rules in
    let short = length_stops c.ports_of-ports.result (length c.args.words.now) c.in_err-check_length.ensures (number_positive c.in_err-check_length.field-0.0) in
    rw (← c.ports_of-ports.ensures.count, told, short.0) (unit_short short.1)

pub read_unit-requires : goal.read_unit-requires
read_unit-requires c = omega (arith, length_goes c.ports_of-ports.result (length c.args.words.now) (sym c.in_ok-check_length.ensures))

pub returns : goal.returns
returns c = let words = c.args.words.now in
    let count = c.ports_of-ports.ensures.count in
    let own = (model_of c.ports_of-ports.result words).rest.own in
    rw (← count)
    (unit_read (length_goes c.ports_of-ports.result (length words) (sym c.in_ok-check_length.ensures))
    (rw (c.read_unit.ensures c.ports_of-ports.result)
    (ap {B = Unit} (λ n. record { claim = own.claim; address = own.address; preferred = own.preferred; name = own.name; ports = n }) (count ∙ sym (own_ports c.ports_of-ports.result words)))))
