-- `bridge::start` meets its contract, by the way that the code went. Assumes nothing.
use mathlib.Core.Path.{◌≡◌, refl, sym}
use native.Mathlib.Omega.{arith}
use Rattle.std.proofs.Common.{rules}
use lib.ListN.{length}
use Rattle.checks.specs.Refusals.{number}
use Rattle.checks.proofs.Refusals.{number_positive}
use Rattle.refusals.proofs.Checks.{start_goes, length_stops, length_goes}
use Rattle.bridge.specs.Told.{start_refused, start_told}
use Rattle.bridge.proofs.Passes.{start_short, start_refused_lem, start_done}
use Rattle.bridge.proofs.start.Goals as goal

pub returns-in_err-check_length : goal.returns-in_err-check_length
returns-in_err-check_length c =
    let told : start_told c.from_residual.result ≡ start_refused (number c.in_err-check_length.field-0.0) = search rules in
    let short = length_stops c.ports_of-ports.result (length c.args.words.now) c.in_err-check_length.ensures (number_positive c.in_err-check_length.field-0.0) in
    rw (← c.ports_of-ports.ensures.count) (start_short c.ports_of-ports.result c.args.words.now short.1 (rw short.0 at told))

pub returns-in_err-check_start : goal.returns-in_err-check_start
returns-in_err-check_start c = let ports = c.ports_of-ports.result in
    let told : start_told c.from_residual-in_err-check_start.result ≡ start_refused (number c.in_err-check_start.field-0.0) = search rules in
    rw (← c.ports_of-ports.ensures.count)
    (start_refused_lem ports c.args.words.now (length_goes ports (length c.args.words.now) (sym c.in_ok-check_length.ensures)) _ (rw (← (c.read_unit.ensures ports)) c.in_err-check_start.ensures) (λ z. omega (arith, number_positive c.in_err-check_start.field-0.0)) told)

pub read_unit-requires : goal.read_unit-requires
read_unit-requires c = omega (arith, length_goes c.ports_of-ports.result (length c.args.words.now) (sym c.in_ok-check_length.ensures))

pub announce-unsent-requires : goal.announce-unsent-requires
announce-unsent-requires c = (c.ports_of-ports.ensures.most, omega (arith, length_goes c.ports_of-ports.result (length c.args.words.now) (sym c.in_ok-check_length.ensures)))

pub read_unit-after-requires : goal.read_unit-after-requires
read_unit-after-requires c = omega (arith, length_goes c.ports_of-ports.result (length c.args.words.now) (sym c.in_ok-check_length.ensures))

pub start-a-requires : goal.start-a-requires
start-a-requires c = (omega (arith, length_goes c.ports_of-ports.result (length c.args.words.now) (sym c.in_ok-check_length.ensures)), λ ports. rw (← (c.read_unit.ensures ports)) (start_goes c.read_unit.result (sym c.in_ok-check_start.ensures)))

pub returns : goal.returns
returns c = let ports = c.ports_of-ports.result in
    rw (← c.ports_of-ports.ensures.count)
    (start_done ports c.args.words.now (length_goes ports (length c.args.words.now) (sym c.in_ok-check_length.ensures)) _ (rw (← (c.read_unit.ensures ports)) c.in_ok-check_start.ensures) refl (omega arith) (c.start-a.ensures ports) c.announce-unsent.ensures (c.read_unit-after.ensures ports))
