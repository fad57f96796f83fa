-- `list_commands::command` meets its contract: refused, or done on every pair that is named. Assumes nothing.
use mathlib.Core.Path.{◌≡◌, sym, ◌∙◌}
use Rattle.std.proofs.Common.{rules, arith}
use Rattle.checks.specs.Refusals.{number, number_in}
use Rattle.checks.proofs.Refusals.{number_positive}
use Rattle.list_commands.proofs.PairLoop.{command_refused, command_done}
use Rattle.list_commands.proofs.command.Goals.{then-named+in_ok-check, else-named}
use Rattle.list_commands.proofs.command.Goals as goal

pub returns-in_err-check : goal.returns-in_err-check
returns-in_err-check c =
    let args = c.args in
    let number_is : number_in c.from_residual.result ≡ number c.in_err-check.field-0.0 = search rules in
    let refused = c.in_err-check.ensures args.from args.to c.pairs_named-named.ensures.0 in
    rw (← c.pairs_named-named.ensures.1, number_is) (command_refused args.from args.to args.change _ refused (λ z. omega (arith, number_positive c.in_err-check.field-0.0)))

pub returns-then-change : goal.returns-then-change
returns-then-change c =
    let args = c.args in
    let done = (c.change.ensures args.from args.to c.pairs_named-named.ensures.0).done c.if-change.true in
    rw (← c.pairs_named-named.ensures.1) (command_done args.from args.to args.change _ done.0 done.1)

pub returns : goal.returns
returns c =
    let args = c.args in
    let N = c.pairs_named-named.ensures.0 in
    let stopped = (c.change.ensures args.from args.to N).refused c.if-change.false in
    let still = stopped.1 (elim c.if-named.branch [ then-named+in_ok-check w ↦ absurd (stopped.0 (sym (w.in_ok-check.ensures args.from args.to N))) | else-named w ↦ w.if-named.false ]) in
    let refused = rw still at (c.check-2.ensures args.from args.to N) in
    rw (← c.pairs_named-named.ensures.1, still) (command_refused args.from args.to args.change _ refused (λ z. stopped.0 (sym refused ∙ z)))
