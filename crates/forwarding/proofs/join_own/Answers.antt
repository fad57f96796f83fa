-- `forwarding::join_own` meets its contract, by what `join_row` ensures. Assumes nothing.
use Rattle.forwarding.proofs.Sends.{own_waits, own_lost_lem}
use Rattle.forwarding.proofs.join_own.Goals as goal

pub returns-then-join_row : goal.returns-then-join_row
returns-then-join_row c = own_waits c.if-join_row.true (c.join_row.ensures c.args.ports c.requires.2)

pub returns : goal.returns
returns c = own_lost_lem c.if-join_row.false (c.join_row.ensures c.args.ports c.requires.2)
    (rw c.general_at-general.ensures at c.count_loss.ensures)
