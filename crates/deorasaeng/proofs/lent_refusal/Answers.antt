-- `lent_refusal` meets its contract: by the test on the way. Assumes nothing.
use Rattle.deorasaeng.specs.Interface.{lent_refusal}
use Rattle.deorasaeng.proofs.lent_refusal.Goals as goal

pub returns-then-not-is_port : goal.returns-then-not-is_port
unfolding lent_refusal
returns-then-not-is_port c = rw (c.number.ensures, ← c.ports_of.ensures.count, ← c.is_port.ensures, c.if-not-is_port.true)

pub returns : goal.returns
unfolding lent_refusal
returns c = rw (c.number-2.ensures, ← c.ports_of.ensures.count, ← c.is_port.ensures, c.if-not-is_port.false)
