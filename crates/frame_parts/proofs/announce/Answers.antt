-- `frame_parts::announce` meets its contract, by the way that the code went. Assumes nothing.
use Rattle.std.proofs.Common.{arith, sym, ◌∙◌}
use Rattle.frame_parts.proofs.Laws.{announce_short, announced}
use Rattle.frame_parts.proofs.announce.Goals as goal

pub returns-then-words-record_length : goal.returns-then-words-record_length
returns-then-words-record_length c = rw (← c.ports_of-ports.ensures.count) (announce_short (λ e. c.if-words-record_length.true (e ∙ sym c.record_length.ensures)))

pub announce-unsent-requires : goal.announce-unsent-requires
announce-unsent-requires c = (c.ports_of-ports.ensures.most, c.if-words-record_length.false ∙ c.record_length.ensures)

pub returns : goal.returns
returns c = rw (← c.ports_of-ports.ensures.count) (announced (c.if-words-record_length.false ∙ c.record_length.ensures) (omega arith) c.announce-unsent.ensures)
