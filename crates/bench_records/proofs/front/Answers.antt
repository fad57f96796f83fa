-- `front` meets its contract: by the length and the kind. Assumes nothing.
use Rattle.std.proofs.Common.{arith, sym, ◌∙◌}
use borrow.Author.Tests.{eqb-true}
use Rattle.bench_records.proofs.Numbers.{front_frame, front_take, front_refused, empty_unknown, number_unknown, number_cut_frame, number_cut_take}
use Rattle.bench_records.proofs.front.Goals.{in-1, in-2}
use Rattle.bench_records.proofs.front.Goals as goal

pub returns-then-is_empty : goal.returns-then-is_empty
returns-then-is_empty c = front_refused (empty_unknown _ (eqb-true _ _ (sym c.is_empty.ensures ∙ c.if-is_empty.true)))

pub returns-in_default : goal.returns-in_default
returns-in_default c = front_refused (number_unknown _ (λ e. omega arith) (λ e. omega arith))

pub returns-then-log-size : goal.returns-then-log-size
returns-then-log-size c = elim c.match-log.branch [
  | in-1 w ↦ front_refused (number_cut_frame c.args.log.now (omega arith) (omega arith))
  | in-2 w ↦ front_refused (number_cut_take c.args.log.now (omega arith) (omega arith))
]

pub returns : goal.returns
returns c = elim c.match-log.branch [
  | in-1 w ↦ rw w.size-is (front_frame (omega arith) (omega arith))
  | in-2 w ↦ rw w.size-is (front_take (omega arith) (omega arith))
]
