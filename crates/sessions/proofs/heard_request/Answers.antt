-- `sessions::heard_request` meets its contract: row by row. Assumes nothing.
use Rattle.std.proofs.Common.{◌≡◌, arith, rules, ap, ◌∙◌, ◌++◌, ◌∷◌, [], true, false, List}
use Rattle.session.specs.Session.{Session, opened}
use Rattle.sessions.specs.Sessions.{talk_of, is_with, place_of, remove_at}
use Rattle.sessions.specs.Heard.{is_right, T2}
use Rattle.sessions.proofs.Search.{place_or, place_removed}
use Rattle.sessions.proofs.Steps.{full, wrong, room, opened_for}
use Rattle.sessions.proofs.heard_request.Goals as goal

pub returns-then-place-ge-MOST : goal.returns-then-place-ge-MOST
returns-then-place-ge-MOST c =
    let a = c.args in
    let at = place_of (is_with 1 a.peer) (talk_of a.port.now) in
    let place : c.unwrap_or-place.result ≡ at = c.unwrap_or-place.ensures ∙ rw (c.find-first.ensures.place, c.count.ensures.0) (place_or (is_with 1 a.peer) (talk_of a.port.now)) in
    full a.port.now at a.peer a.size a.packets a.limit a.time (omega arith)

pub returns-then-not-is_right : goal.returns-then-not-is_right
returns-then-not-is_right c =
    let a = c.args in
    let at = place_of (is_with 1 a.peer) (talk_of a.port.now) in
    let place : c.unwrap_or-place.result ≡ at = c.unwrap_or-place.ensures ∙ rw (c.find-first.ensures.place, c.count.ensures.0) (place_or (is_with 1 a.peer) (talk_of a.port.now)) in
    let right : is_right a.size a.packets ≡ false = search rules in
    wrong a.port.now at a.peer a.size a.packets a.limit a.time (omega arith) right

pub open-requires : goal.open-requires
open-requires c =
    let a = c.args in
    let at = place_of (is_with 1 a.peer) (talk_of a.port.now) in
    let place : c.unwrap_or-place.result ≡ at = c.unwrap_or-place.ensures ∙ rw (c.find-first.ensures.place, c.count.ensures.0) (place_or (is_with 1 a.peer) (talk_of a.port.now)) in
    let n = c.count.ensures in
    rw (c.drop_at.ensures, c.find-first.ensures.place, place_removed (is_with 1 a.peer) (talk_of a.port.now)) (room at (talk_of a.port.now) (omega arith) (omega arith))

pub returns : goal.returns
returns c =
    let a = c.args in
    let at = place_of (is_with 1 a.peer) (talk_of a.port.now) in
    let place : c.unwrap_or-place.result ≡ at = c.unwrap_or-place.ensures ∙ rw (c.find-first.ensures.place, c.count.ensures.0) (place_or (is_with 1 a.peer) (talk_of a.port.now)) in
    let right : is_right a.size a.packets ≡ true = search rules in
    let gone : talk_of c.drop_at.new.port ≡ remove_at at (talk_of a.port.now) = c.drop_at.ensures ∙ rw c.find-first.ensures.place (place_removed (is_with 1 a.peer) (talk_of a.port.now)) in
    opened_for a.port.now at a.peer a.size a.packets a.limit a.time (omega arith) c.min-limit.result c.min-count.result right c.min-limit.ensures c.min-count.ensures
    (c.open.ensures ∙ ap {A = List Session} (λ ss. ss ++ (opened 1 a.peer a.size c.min-count.result c.min-limit.result T2 a.time ∷ [])) gone)
