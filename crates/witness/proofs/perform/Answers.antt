-- `perform` meets its contract: each kind is its call. Assumes nothing.
use borrow.Author.Tests.{ne_eqb}
use Rattle.witness.specs.Encoding.{call_from}
use Rattle.witness.proofs.perform.Goals as goal

pub returns-in-0 : goal.returns-in-0
unfolding call_from
returns-in-0 c = rw c.in-0.is c.frame.ensures

pub returns-in-1 : goal.returns-in-1
unfolding call_from
returns-in-1 c = rw c.in-1.is c.take.ensures

pub returns-in-2 : goal.returns-in-2
unfolding call_from
returns-in-2 c = rw c.in-2.is c.message.ensures

pub returns-in-3 : goal.returns-in-3
unfolding call_from
returns-in-3 c = rw c.in-3.is c.start.ensures

pub returns-in-5 : goal.returns-in-5
unfolding call_from
returns-in-5 c = rw c.in-5.is c.read_unit.ensures

pub returns-in-6 : goal.returns-in-6
unfolding call_from
returns-in-6 c = rw c.in-6.is c.read_counts.ensures

pub returns-in_default : goal.returns-in_default
unfolding call_from
returns-in_default c = let kind = c.args.kind in
    let rest = c.in_default.in_default-own.rest in
    rw (ne_eqb kind 0 rest.0.0.0.0.0.1, ne_eqb kind 1 rest.0.0.0.0.1, ne_eqb kind 2 rest.0.0.0.1, ne_eqb kind 3 rest.0.0.1, ne_eqb kind 5 rest.0.1, ne_eqb kind 6 rest.1) c.quiet.ensures
