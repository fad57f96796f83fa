-- `sessions::heard_clear` meets its contract: row by row. Assumes nothing.
use Rattle.std.proofs.Common.{◌≡◌, arith, ap, ◌∙◌, ◌<◌, length, get_or}
use Rattle.session.specs.Session.{Session}
use Rattle.sessions.specs.Sessions.{talk_of, none, is_with}
use Rattle.sessions.proofs.Talk.{lent}
use Rattle.sessions.proofs.Search.{place_some, place_none}
use Rattle.sessions.proofs.Steps.{clears_none, clears_held, clears_zero, clears_past, clears_send}
use Rattle.sessions.proofs.heard_clear.Goals.{then-first-eq0-via-then-first-eq0, then-first-eq0-via-else-first-eq0+then-last-first}
use Rattle.sessions.proofs.heard_clear.Goals as goal

pub returns-in_err-at : goal.returns-in_err-at
returns-in_err-at c =
    let a = c.args in
    rw c.from_residual.ensures
    (clears_none a.port.now _ a.asked a.first a.time (place_none (is_with 2 a.peer) (talk_of a.port.now) (rw c.in_err-at.was at c.find.ensures.place)))

pub returns-then-asked-eq0 : goal.returns-then-asked-eq0
returns-then-asked-eq0 c =
    let a = c.args in
    let p = place_some (is_with 2 a.peer) (talk_of a.port.now) (rw c.in_ok-at.was at c.find.ensures.place) in
    rw (← p.0) (clears_held a.port.now c.in_ok-at.at a.asked a.first a.time (omega (arith, p.0, p.1)) (omega arith) c.set_timer.ensures)

pub returns-then-first-eq0 : goal.returns-then-first-eq0
returns-then-first-eq0 c =
    let a = c.args in
    let at = c.in_ok-at.at in
    let p = place_some (is_with 2 a.peer) (talk_of a.port.now) (rw c.in_ok-at.was at c.find.ensures.place) in
    let h : at < length (talk_of a.port.now) = omega (arith, p.0, p.1) in
    let last : c.stored-last.result ≡ length (get_or (talk_of a.port.now) at none).packets =
    c.stored-last.ensures.0 ∙ ap (λ (s : Session). length s.packets) (lent c.open_blocks.result.now at c.open_blocks.ensures.value h) in
    rw (← p.0)
    (elim c.then-first-eq0.branch [
      | then-first-eq0-via-then-first-eq0 w ↦ clears_zero a.port.now at a.asked a.first a.time h (λ z. omega arith) w.if-first-eq0.true
      | then-first-eq0-via-else-first-eq0+then-last-first w ↦
          clears_past a.port.now at a.asked a.first a.time h (λ z. omega arith) (λ z. omega arith) (omega arith)
    ])

pub returns : goal.returns
returns c =
    let a = c.args in
    let at = c.in_ok-at.at in
    let p = place_some (is_with 2 a.peer) (talk_of a.port.now) (rw c.in_ok-at.was at c.find.ensures.place) in
    let h : at < length (talk_of a.port.now) = omega (arith, p.0, p.1) in
    let last : c.stored-last.result ≡ length (get_or (talk_of a.port.now) at none).packets =
    c.stored-last.ensures.0 ∙ ap (λ (s : Session). length s.packets) (lent c.open_blocks.result.now at c.open_blocks.ensures.value h) in
    rw (← p.0)
    (clears_send a.port.now at a.asked a.first a.time h (λ z. omega arith) (λ z. omega arith) (omega arith) c.set_timer-2.ensures
    (c.min-through.ensures ∙ rw (c.min.ensures, last)))
