-- `identifier::has_wrong_source` meets its contract: by the tests on the way; a byte above 254 is 255. Assumes nothing.
use native.Mathlib.Omega.{arith}
use borrow.Author.Tests.{eq-eqb, ne_eqb}
use Rattle.identifier.specs.Identifier.{sa_of, wrong_source}
use Rattle.identifier.proofs.has_wrong_source.Goals as goal

pub returns-then-source-lt-NO_ADDRESS : goal.returns-then-source-lt-NO_ADDRESS
unfolding wrong_source
returns-then-source-lt-NO_ADDRESS c = let id = c.args.id in
    rw (ne_eqb (sa_of id) 255 (λ e. omega arith), ne_eqb (sa_of id) 254 (λ e. omega arith))

pub returns-then-source-eq-NO_ADDRESS : goal.returns-then-source-eq-NO_ADDRESS
unfolding wrong_source
returns-then-source-eq-NO_ADDRESS c = let id = c.args.id in
    rw (ne_eqb (sa_of id) 255 (λ e. omega arith), eq-eqb (sa_of id) 254 (omega arith), c.is_sent_without_address.ensures)

pub returns : goal.returns
unfolding wrong_source
returns c = rw (eq-eqb (sa_of c.args.id) 255 (omega arith))
