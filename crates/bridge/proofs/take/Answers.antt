-- `bridge::take` meets its contract, by what the checks and the take on the queue ensure. Assumes nothing.
use mathlib.Core.Path.{◌≡◌, refl, sym}
use native.Mathlib.Omega.{arith}
use Rattle.std.proofs.Common.{rules}
use lib.ListN.{length}
use Rattle.checks.specs.Refusals.{number}
use Rattle.checks.proofs.Refusals.{number_positive}
use Rattle.refusals.proofs.Checks.{take_goes}
use Rattle.bridge.specs.Told.{TakeTold, take_told}
use Rattle.bridge.proofs.Answers.{take_refused, taken}
use Rattle.bridge.proofs.take.Goals as goal

pub returns-in_err-check_take : goal.returns-in_err-check_take
returns-in_err-check_take c =
    let told : take_told c.from_residual.result ≡ TakeTold.Refused (number c.in_err-check_take.field-0.0) = search rules in
    rw (← c.ports_of-ports.ensures.count, told) (take_refused c.in_err-check_take.ensures (λ z. omega (arith, number_positive c.in_err-check_take.field-0.0)))

pub overflow_sub-q : goal.overflow_sub-q
overflow_sub-q c = (take_goes c.ports_of-ports.result (length c.args.words.now) c.args.port (sym c.in_ok-check_take.ensures)).1

pub take_row-requires : goal.take_row-requires
take_row-requires c = let G = take_goes c.ports_of-ports.result (length c.args.words.now) c.args.port (sym c.in_ok-check_take.ensures) in
    omega (arith, G.0, G.1, G.2)

pub returns : goal.returns
returns c = let G = take_goes c.ports_of-ports.result (length c.args.words.now) c.args.port (sym c.in_ok-check_take.ensures) in
    rw (← c.ports_of-ports.ensures.count) (taken c.in_ok-check_take.ensures (omega arith) refl (c.take_row.ensures _ (omega (arith, G.1, G.2))))
