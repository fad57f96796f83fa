-- `frame_parts::arrive` meets its contract: refused, or told as it was handed in. Assumes nothing.
use Rattle.std.proofs.Common.{arith, refl, sym, length}
use Rattle.claims.proofs.Frames.{frame_is}
use Rattle.refusals.proofs.Checks.{frame_goes}
use Rattle.frame_parts.proofs.Laws.{arrival}
use Rattle.frame_parts.proofs.arrive.Goals as goal

pub overflow_cast-frame : goal.overflow_cast-frame
overflow_cast-frame c = let args = c.args in
    let goes = sym (rw c.in_ok-check_frame.was at c.check_frame.ensures) in
    let G = frame_goes c.ports_of-ports.result (length args.words.now) args.port args.id (length args.bytes.now) goes in
    omega (arith, G.3)

pub read_unit-unit-requires : goal.read_unit-unit-requires
read_unit-unit-requires c = let args = c.args in
    let goes = sym (rw c.in_ok-check_frame.was at c.check_frame.ensures) in
    let G = frame_goes c.ports_of-ports.result (length args.words.now) args.port args.id (length args.bytes.now) goes in
    omega (arith, G.0)

pub returns : goal.returns
returns c = let args = c.args in
    let goes = sym (rw c.in_ok-check_frame.was at c.check_frame.ensures) in
    let G = frame_goes c.ports_of-ports.result (length args.words.now) args.port args.id (length args.bytes.now) goes in
    rw (← c.ports_of-ports.ensures.count)
    (arrival c.ports_of-ports.result args.id args.words.now args.bytes.now goes (frame_is args.bytes.now refl G.3 c.pack-word.ensures) (rw (c.read_unit-unit.ensures c.ports_of-ports.result) at c.consumes-consumed.ensures) c.is_claim-claim.ensures)
