-- `message_answers::report_value` meets its contract, by what was written. Assumes nothing.
use native.Mathlib.Omega.{arith}
use Rattle.message_answers.proofs.Replies.{held_small}
use Rattle.message_answers.proofs.report_value.Goals as goal

pub overflow_cast-parameter : goal.overflow_cast-parameter
overflow_cast-parameter c = omega (arith, held_small c.args.parameter c.requires.1)
