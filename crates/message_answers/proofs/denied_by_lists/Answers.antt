-- `message_answers::denied_by_lists` meets its contract, by the refusal. Assumes nothing.
use mathlib.Core.Path.{◌≡◌, sym}
use mathlib.Core.Bool.{true, false, true≢false}
use denote.Enum.Bare.{same_true}
use Rattle.std.proofs.Common.{rules}
use Rattle.checks.specs.contracts.refusal.Refusal.{the_type}
use Rattle.checks.specs.declared.refusal.Refusal.TheVariants.{Absent}
use Rattle.message_answers.specs.Messages.{absent_told}
use Rattle.message_answers.proofs.Seventeen.{not_17}
use Rattle.message_answers.proofs.denied_by_lists.Goals as goal

pub returns-in-Some-clause-number : goal.returns-in-Some-clause-number
returns-in-Some-clause-number c =
    let is : c.args.refusal ≡ Absent = same_true the_type (search rules) _ _ (sym c.if-eq.ensures) in
    rw is

pub returns-in-Some-clause-told : goal.returns-in-Some-clause-told
unfolding absent_told
returns-in-Some-clause-told c = λ lacking.
    let is : c.args.refusal ≡ Absent = same_true the_type (search rules) _ _ (sym c.if-eq.ensures) in
    let found = c.in-Some.ensures (lacking (rw is)) in
    rw is (cc)

pub returns-else-eq-clause-told : goal.returns-else-eq-clause-told
unfolding absent_told
returns-else-eq-clause-told c = λ lacking.
    rw (not_17 c.args.refusal (λ is. let z : ◌≡◌ false true = rw is at c.if-eq.ensures in absurd (true≢false (sym z))))
