-- `claims::act` meets its contract: by what the frame is. Assumes nothing.
use native.Mathlib.Omega.{arith}
use mathlib.Core.Path.{refl, sym, ◌∙◌}
use Rattle.claims.proofs.Acts.{no_claim, no_request, claim_acted_lem, request_acted, not_acted}
use Rattle.claims.proofs.act.Goals as goal
use Rattle.claims.proofs.act.Goals.{in_default-via-in-60928+else-is_claim, in_default-via-in-59904+else-is_request_to_unit, in_default-via-in_default-1}

pub returns-in-60928 : goal.returns-in-60928
returns-in-60928 c = λ ports. let args = c.args in
    let yes = sym c.is_claim.ensures ∙ c.if-is_claim.true in
    claim_acted_lem ports args.words.now args.port args.consumed args.f c.act_on_claim.result yes (c.act_on_claim.ensures ports)

pub returns-in-59904 : goal.returns-in-59904
returns-in-59904 c = λ ports. let args = c.args in
    let no = no_claim args.f c.pgn.result c.pgn.ensures (λ e. omega (arith, c.in-59904.is)) in
    let yes = sym c.is_request_to_unit.ensures ∙ c.if-is_request_to_unit.true in
    request_acted ports args.words.now args.port args.consumed args.f _ no yes refl (rw (← (c.read_unit-unit.ensures ports)) c.request_answer.ensures)

pub returns-in_default : goal.returns-in_default
returns-in_default c = λ ports. let args = c.args in
    let no = no_claim args.f c.pgn.result c.pgn.ensures in
    let none = no_request args.f c.pgn.result c.pgn.ensures args.consumed in
    let alone = not_acted ports args.words.now args.port args.consumed args.f c.alone.result in
    elim c.in_default.branch [
      | in_default-via-in-60928+else-is_claim w ↦
          alone (sym w.is_claim.ensures ∙ w.if-is_claim.false) (none (λ e. omega (arith, w.in-60928.is))) c.alone.ensures
      | in_default-via-in-59904+else-is_request_to_unit w ↦
          alone (no (λ e. omega (arith, w.in-59904.is))) (sym w.is_request_to_unit.ensures ∙ w.if-is_request_to_unit.false) c.alone.ensures
      | in_default-via-in_default-1 w ↦ alone (no (λ e. omega arith)) (none (λ e. omega arith)) c.alone.ensures
    ]
