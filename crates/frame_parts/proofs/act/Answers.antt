-- `frame_parts::act` meets its contract, by the way that the code went. Assumes nothing.
use Rattle.std.proofs.Common.{arith, sym, length}
use Rattle.refusals.proofs.Checks.{frame_goes}
use Rattle.frame_parts.proofs.Laws.{acted}
use Rattle.frame_parts.proofs.act.Goals as goal

pub act-acted-requires : goal.act-acted-requires
act-acted-requires c = let args = c.args in
    let goes = sym (rw c.in_ok-check_frame.was at c.check_frame.ensures) in
    let G = frame_goes c.ports_of-ports.result (length args.words.now) args.port args.f.id args.f.len goes in
    (omega (arith, G.0), G.4)

pub returns : goal.returns
returns c = let args = c.args in
    let goes = sym (rw c.in_ok-check_frame.was at c.check_frame.ensures) in
    rw (← c.ports_of-ports.ensures.count) (acted args.port args.consumed args.f goes (omega arith) (c.act-acted.ensures _))
