-- `frame_parts::ask` meets its contract, by the way that the code went. Assumes nothing.
use Rattle.std.proofs.Common.{arith, sym, length}
use Rattle.frame_parts.proofs.Laws.{pair_goes, ask_self, ask_pair}
use Rattle.frame_parts.proofs.ask.Goals as goal

pub overflow_sub-p : goal.overflow_sub-p
overflow_sub-p c = let args = c.args in
    let goes = sym (rw c.in_ok-check_pair.was at c.check_pair.ensures) in
    let G = pair_goes c.ports_of-ports.result (length args.words.now) args.from args.to args.id 0 goes in
    G.1

pub overflow_sub-q : goal.overflow_sub-q
overflow_sub-q c = let args = c.args in
    let goes = sym (rw c.in_ok-check_pair.was at c.check_pair.ensures) in
    let G = pair_goes c.ports_of-ports.result (length args.words.now) args.from args.to args.id 0 goes in
    G.3

pub ask_pair-asked-requires : goal.ask_pair-asked-requires
ask_pair-asked-requires c = let args = c.args in
    let goes = sym (rw c.in_ok-check_pair.was at c.check_pair.ensures) in
    let G = pair_goes c.ports_of-ports.result (length args.words.now) args.from args.to args.id 0 goes in
    (c.ports_of-ports.ensures.most, G.0, omega (arith, G.1, G.2), omega (arith, G.3, G.4), λ s. c.if-from-to.false (omega (arith, s, G.1, G.3)))

pub returns-then-from-to : goal.returns-then-from-to
returns-then-from-to c = let args = c.args in
    let goes = sym (rw c.in_ok-check_pair.was at c.check_pair.ensures) in
    rw (← c.ports_of-ports.ensures.count) (ask_self args.words.now args.from args.to args.id goes c.if-from-to.true)

pub returns : goal.returns
returns c = let args = c.args in
    let goes = sym (rw c.in_ok-check_pair.was at c.check_pair.ensures) in
    let G = pair_goes c.ports_of-ports.result (length args.words.now) args.from args.to args.id 0 goes in
    rw (← c.ports_of-ports.ensures.count) (ask_pair args.words.now args.from args.to args.id goes (λ s. c.if-from-to.false (omega (arith, s, G.1, G.3))) c.pgn.ensures c.sa.ensures c.ask_pair-asked.ensures)
