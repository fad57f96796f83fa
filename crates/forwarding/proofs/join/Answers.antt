-- `forwarding::join` meets its contract, by what `join_row` ensures. Assumes nothing.
use Rattle.forwarding.proofs.Sends.{joined_waits, joined_lost}
use Rattle.forwarding.proofs.join.Goals as goal

pub returns-then-join_row : goal.returns-then-join_row
returns-then-join_row c = joined_waits c.if-join_row.true (c.join_row.ensures c.args.ports c.requires.3)

pub returns : goal.returns
returns c = joined_lost c.if-join_row.false (c.join_row.ensures c.args.ports c.requires.3) c.count_loss.ensures
