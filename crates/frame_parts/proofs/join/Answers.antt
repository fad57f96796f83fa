-- `frame_parts::join` meets its contract, by the way that the code went. Assumes nothing.
use Rattle.std.proofs.Common.{arith, sym, length}
use Rattle.frame_parts.proofs.Laws.{pair_goes, join_self, joined}
use Rattle.frame_parts.proofs.join.Goals as goal

pub overflow_sub-p : goal.overflow_sub-p
overflow_sub-p c = let args = c.args in
    let goes = sym (rw c.in_ok-check_pair.was at c.check_pair.ensures) in
    let G = pair_goes c.ports_of-ports.result (length args.words.now) args.from args.to args.f.id args.f.len goes in
    G.1

pub overflow_sub-q : goal.overflow_sub-q
overflow_sub-q c = let args = c.args in
    let goes = sym (rw c.in_ok-check_pair.was at c.check_pair.ensures) in
    let G = pair_goes c.ports_of-ports.result (length args.words.now) args.from args.to args.f.id args.f.len goes in
    G.3

pub join-accepted-requires : goal.join-accepted-requires
join-accepted-requires c = let args = c.args in
    let goes = sym (rw c.in_ok-check_pair.was at c.check_pair.ensures) in
    let G = pair_goes c.ports_of-ports.result (length args.words.now) args.from args.to args.f.id args.f.len goes in
    (c.ports_of-ports.ensures.most, G.0, omega (arith, G.1, G.2), omega (arith, G.3, G.4), λ s. c.if-from-to.false (omega (arith, s, G.1, G.3)))

pub returns-then-from-to : goal.returns-then-from-to
returns-then-from-to c = let args = c.args in
    let goes = sym (rw c.in_ok-check_pair.was at c.check_pair.ensures) in
    rw (← c.ports_of-ports.ensures.count) (join_self args.from args.to args.f goes c.if-from-to.true)

pub returns : goal.returns
returns c = let args = c.args in
    let goes = sym (rw c.in_ok-check_pair.was at c.check_pair.ensures) in
    let G = pair_goes c.ports_of-ports.result (length args.words.now) args.from args.to args.f.id args.f.len goes in
    rw (← c.ports_of-ports.ensures.count) (joined args.from args.to args.f goes c.if-from-to.false (omega arith) c.join-accepted.ensures)
