-- `address_claims::contest` meets its contract: the order of the NAMEs is the definition's tests. Assumes nothing.
use Rattle.std.proofs.Common.{◌<◌, arith}
use Rattle.std.specs.Cmp.{ranked}
use borrow.Author.Tests.{eq-eqb, ne_eqb, lt-ltb, le-ltb}
use Rattle.address_claims.specs.Claims.{contest_event}
use Rattle.address_claims.proofs.contest.Goals as goal

pub returns-in_default : goal.returns-in_default
unfolding contest_event
returns-in_default c = rw c.in_default.is

pub returns-in-Less : goal.returns-in-Less
unfolding contest_event
returns-in-Less c = let less : c.args.name < c.in-Some.holder.name = ranked _ _ _ c.in-Less.ensures in
    rw (c.in-Some.is, ne_eqb c.args.name c.in-Some.holder.name (λ e. omega arith), lt-ltb _ _ less)

pub returns-in-Equal : goal.returns-in-Equal
unfolding contest_event
returns-in-Equal c = rw (c.in-Some.is, eq-eqb _ _ (ranked _ _ _ c.in-Equal.ensures))

pub returns-in-Greater : goal.returns-in-Greater
unfolding contest_event
returns-in-Greater c = let greater : c.in-Some.holder.name < c.args.name = ranked _ _ _ c.in-Greater.ensures in
    rw (c.in-Some.is, ne_eqb c.args.name c.in-Some.holder.name (λ e. omega arith), le-ltb c.args.name c.in-Some.holder.name (omega arith))
