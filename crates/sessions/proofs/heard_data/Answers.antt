-- `sessions::heard_data` meets its contract: the row of the session that is found. Assumes nothing.
use Rattle.std.proofs.Common.{◌≡◌, arith, sym, ap, ◌∙◌, ◌<◌, true, false, length, get_or}
use Rattle.session.specs.Session.{Session, is_last, is_asked}
use Rattle.sessions.specs.Sessions.{talk_of, none, is_with}
use Rattle.sessions.proofs.Talk.{lent}
use Rattle.sessions.proofs.Search.{place_some, place_none}
use Rattle.sessions.proofs.Steps.{hears_none, hears_other, hears_last, hears_asked, hears_kept}
use Rattle.sessions.proofs.heard_data.Goals as goal

pub returns-in_default : goal.returns-in_default
returns-in_default c =
    let a = c.args in
    hears_none a.port.now _ a.word a.time a.out.now (place_none (is_with 1 a.peer) (talk_of a.port.now) (rw c.in_default.is at c.find.ensures.place))

pub returns-then-word-stored : goal.returns-then-word-stored
returns-then-word-stored c =
    let a = c.args in
    let i = c.in-Some.i in
    let p = place_some (is_with 1 a.peer) (talk_of a.port.now) (rw c.in-Some.is at c.find.ensures.place) in
    let h : i < length (talk_of a.port.now) = omega (arith, p.0, p.1) in
    let s = lent c.open_blocks.result.now i c.open_blocks.ensures.value h in
    let here : c.stored.result ≡ length (get_or (talk_of a.port.now) i none).packets = c.stored.ensures.0 ∙ ap (λ (s : Session). length s.packets) s in
    rw (← p.0) (hears_other a.port.now i a.word a.time a.out.now h (λ e. omega arith))

pub returns-then-is_last : goal.returns-then-is_last
returns-then-is_last c =
    let a = c.args in
    let i = c.in-Some.i in
    let p = place_some (is_with 1 a.peer) (talk_of a.port.now) (rw c.in-Some.is at c.find.ensures.place) in
    let h : i < length (talk_of a.port.now) = omega (arith, p.0, p.1) in
    let s = lent c.open_blocks.result.now i c.open_blocks.ensures.value h in
    let here : c.stored.result ≡ length (get_or (talk_of a.port.now) i none).packets = c.stored.ensures.0 ∙ ap (λ (s : Session). length s.packets) s in
    let last : is_last (get_or (talk_of a.port.now) i none) ≡ true = sym (c.is_last.ensures ∙ ap (λ (s : Session). is_last s) s) ∙ c.if-is_last.true in
    rw (← p.0) (hears_last a.port.now i a.word a.time a.out.now h (omega arith) last c.take_last.ensures)

pub returns-then-is_asked : goal.returns-then-is_asked
returns-then-is_asked c =
    let a = c.args in
    let i = c.in-Some.i in
    let p = place_some (is_with 1 a.peer) (talk_of a.port.now) (rw c.in-Some.is at c.find.ensures.place) in
    let h : i < length (talk_of a.port.now) = omega (arith, p.0, p.1) in
    let s = lent c.open_blocks.result.now i c.open_blocks.ensures.value h in
    let here : c.stored.result ≡ length (get_or (talk_of a.port.now) i none).packets = c.stored.ensures.0 ∙ ap (λ (s : Session). length s.packets) s in
    let last : is_last (get_or (talk_of a.port.now) i none) ≡ false = sym (c.is_last.ensures ∙ ap (λ (s : Session). is_last s) s) ∙ c.if-is_last.false in
    let asked : is_asked (get_or (talk_of a.port.now) i none) ≡ true = sym (c.is_asked.ensures ∙ ap (λ (s : Session). is_asked s) s) ∙ c.if-is_asked.true in
    rw (← p.0) (hears_asked a.port.now i a.word a.time a.out.now h (omega arith) last asked c.take_asked.ensures)

pub returns : goal.returns
returns c =
    let a = c.args in
    let i = c.in-Some.i in
    let p = place_some (is_with 1 a.peer) (talk_of a.port.now) (rw c.in-Some.is at c.find.ensures.place) in
    let h : i < length (talk_of a.port.now) = omega (arith, p.0, p.1) in
    let s = lent c.open_blocks.result.now i c.open_blocks.ensures.value h in
    let here : c.stored.result ≡ length (get_or (talk_of a.port.now) i none).packets = c.stored.ensures.0 ∙ ap (λ (s : Session). length s.packets) s in
    let last : is_last (get_or (talk_of a.port.now) i none) ≡ false = sym (c.is_last.ensures ∙ ap (λ (s : Session). is_last s) s) ∙ c.if-is_last.false in
    let asked : is_asked (get_or (talk_of a.port.now) i none) ≡ false = sym (c.is_asked.ensures ∙ ap (λ (s : Session). is_asked s) s) ∙ c.if-is_asked.false in
    rw (← p.0) (hears_kept a.port.now i a.word a.time a.out.now h (omega arith) last asked c.take_kept.ensures)
