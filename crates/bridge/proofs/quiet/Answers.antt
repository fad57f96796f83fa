-- `bridge::quiet` meets its contract, by the way that the code went. Assumes nothing.
use mathlib.Core.Path.{◌≡◌, sym, ◌∙◌}
use native.Mathlib.Omega.{arith}
use Rattle.std.proofs.Common.{rules}
use lib.ListN.{length}
use Rattle.checks.specs.Refusals.{number, number_in}
use Rattle.checks.proofs.Refusals.{number_positive}
use Rattle.refusals.proofs.Checks.{length_stops, length_goes}
use Rattle.bridge.proofs.Answers.{quiet_short, quiet_wrong, quieted}
use Rattle.bridge.proofs.quiet.Goals as goal

pub returns-in_err-check_length : goal.returns-in_err-check_length
returns-in_err-check_length c =
    let told : number_in c.from_residual.result ≡ number c.in_err-check_length.field-0.0 = search rules in
    let short = length_stops c.ports_of-ports.result (length c.args.words.now) c.in_err-check_length.ensures (number_positive c.in_err-check_length.field-0.0) in
    rw (← c.ports_of-ports.ensures.count, told, short.0) (quiet_short short.1)

pub read_unit-unit-requires : goal.read_unit-unit-requires
read_unit-unit-requires c = omega (arith, length_goes c.ports_of-ports.result (length c.args.words.now) (sym c.in_ok-check_length.ensures))

pub store_claim-requires : goal.store_claim-requires
store_claim-requires c = omega (arith, length_goes c.ports_of-ports.result (length c.args.words.now) (sym c.in_ok-check_length.ensures))

pub returns-then-not-is_claiming : goal.returns-then-not-is_claiming
returns-then-not-is_claiming c = rw (← c.ports_of-ports.ensures.count)
    (quiet_wrong (length_goes c.ports_of-ports.result (length c.args.words.now) (sym c.in_ok-check_length.ensures)) (rw (← (c.read_unit-unit.ensures c.ports_of-ports.result)) (sym c.is_claiming.ensures ∙ c.if-not-is_claiming.true)))

pub returns : goal.returns
returns c = rw (← c.ports_of-ports.ensures.count)
    (quieted (length_goes c.ports_of-ports.result (length c.args.words.now) (sym c.in_ok-check_length.ensures))
    (rw (← (c.read_unit-unit.ensures c.ports_of-ports.result)) (sym c.is_claiming.ensures ∙ c.if-not-is_claiming.false))
    (omega arith)
    (c.store_claim.ensures _))
