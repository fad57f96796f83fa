-- `identifier::is_sent_without_address` meets its contract: by the tests on the way. Assumes nothing.
use mathlib.Core.Path.{sym, ◌∙◌}
use borrow.Author.Tests.{eq-eqb, ne_eqb}
use Rattle.identifier.specs.Identifier.{pgn_of, request, address_claimed, sent_without_address}
use Rattle.identifier.proofs.is_sent_without_address.Goals as goal

pub returns-then-number-eq-REQUEST : goal.returns-then-number-eq-REQUEST
unfolding sent_without_address
returns-then-number-eq-REQUEST c = rw (eq-eqb (pgn_of c.args.id) request (sym c.pgn-number.ensures ∙ c.if-number-eq-REQUEST.true))

pub returns-then-number-eq-ADDRESS_CLAIMED : goal.returns-then-number-eq-ADDRESS_CLAIMED
unfolding sent_without_address
returns-then-number-eq-ADDRESS_CLAIMED c = let id = c.args.id in
    rw (
      ne_eqb (pgn_of id) request (λ e. c.if-number-eq-REQUEST.false (c.pgn-number.ensures ∙ e)),
      eq-eqb (pgn_of id) address_claimed (sym c.pgn-number.ensures ∙ c.if-number-eq-ADDRESS_CLAIMED.true),
      c.ps.ensures,
    )

pub returns : goal.returns
unfolding sent_without_address
returns c = let id = c.args.id in
    rw (
      ne_eqb (pgn_of id) request (λ e. c.if-number-eq-REQUEST.false (c.pgn-number.ensures ∙ e)),
      ne_eqb (pgn_of id) address_claimed (λ e. c.if-number-eq-ADDRESS_CLAIMED.false (c.pgn-number.ensures ∙ e)),
    )
