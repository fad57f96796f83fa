-- `bridge::frame` meets its contract: refused, or passed on as it was handed in. Assumes nothing.
use mathlib.Core.Path.{◌≡◌, refl, sym}
use native.Mathlib.Omega.{arith}
use Rattle.std.proofs.Common.{rules}
use lib.ListN.{length}
use Rattle.checks.specs.Refusals.{number}
use Rattle.checks.proofs.Refusals.{number_positive}
use Rattle.refusals.proofs.Checks.{frame_goes}
use Rattle.claims.proofs.Frames.{frame_is}
use Rattle.bridge.specs.Told.{frame_refused, frame_told}
use Rattle.bridge.proofs.Passes.{frame_refused_lem, frame_passed_lem}
use Rattle.bridge.proofs.frame.Goals as goal

pub returns-in_err-check_frame : goal.returns-in_err-check_frame
returns-in_err-check_frame c =
    let args = c.args in
    let told : frame_told c.from_residual.result ≡ frame_refused (number c.in_err-check_frame.field-0.0) = search rules in
    rw (← c.ports_of-ports.ensures.count)
    (frame_refused_lem args.port args.id args.bytes.now c.in_err-check_frame.ensures (λ z. omega (arith, number_positive c.in_err-check_frame.field-0.0)) told)

pub overflow_cast-f : goal.overflow_cast-f
overflow_cast-f c = let G = frame_goes c.ports_of-ports.result (length c.args.words.now) c.args.port c.args.id (length c.args.bytes.now) (sym c.in_ok-check_frame.ensures) in
    omega (arith, G.3)

pub pass-requires : goal.pass-requires
pass-requires c = let G = frame_goes c.ports_of-ports.result (length c.args.words.now) c.args.port c.args.id (length c.args.bytes.now) (sym c.in_ok-check_frame.ensures) in
    (c.ports_of-ports.ensures.most, G.0, G.1, G.2, G.4)

pub returns : goal.returns
returns c = let args = c.args in
    let G = frame_goes c.ports_of-ports.result (length c.args.words.now) c.args.port c.args.id (length c.args.bytes.now) (sym c.in_ok-check_frame.ensures) in
    rw (← c.ports_of-ports.ensures.count)
    (frame_passed_lem args.port args.id args.bytes.now c.in_ok-check_frame.ensures refl (omega arith) (frame_is args.bytes.now refl G.3 c.pack.ensures) c.pass.ensures)
