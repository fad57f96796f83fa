-- `forwarding::carry` meets its contract, by the way that the code went. Assumes nothing.
use Rattle.forwarding.proofs.Sends.{carried_stopped, carried}
use Rattle.std.proofs.Common.{true, false, sym, ◌∙◌}
use Rattle.forwarding.proofs.carry.Goals.{then-not-crosses, else-not-crosses+then-join_row, else-not-crosses+else-join_row}
use Rattle.forwarding.proofs.carry.Goals as goal

pub returns : goal.returns
returns c = λ ports more.
    let asked = sym c.crosses.ensures in
    elim c.if-not-crosses.branch [
      | then-not-crosses w ↦ rw (w.words-is, w.came-is) (carried_stopped c.number.ensures c.requires.1 (asked ∙ w.if-not-crosses.true))
      | else-not-crosses+then-join_row w ↦
          rw (w.words-is, w.came-is)
          (carried c.number.ensures c.requires.1 true (asked ∙ w.if-not-crosses.false) w.if-join_row.true (w.join_row.ensures ports more))
      | else-not-crosses+else-join_row w ↦
          rw (w.words-is, w.came-is)
          (carried c.number.ensures c.requires.1 false (asked ∙ w.if-not-crosses.false) w.if-join_row.false (w.join_row.ensures ports more))
    ]
