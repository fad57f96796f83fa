-- `frame_parts::check_pair` meets its contract: by the test on the way. Assumes nothing.
use Rattle.frame_parts.specs.Parts.{pair_refusal}
use Rattle.frame_parts.proofs.check_pair.Goals as goal

pub returns-then-not-is_port : goal.returns-then-not-is_port
unfolding pair_refusal
returns-then-not-is_port c = simp (← c.is_port.ensures, c.if-not-is_port.true)

pub returns : goal.returns
unfolding pair_refusal
returns c = simp (← c.is_port.ensures, c.if-not-is_port.false) c.check_frame.ensures
