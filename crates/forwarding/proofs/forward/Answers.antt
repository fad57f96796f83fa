-- `forwarding::forward` meets its contract: what was lost on the way is counted, where there is any. Assumes nothing.
use native.Mathlib.Omega.{arith}
use Rattle.identifier.specs.Identifier.{sa_of}
use Rattle.forwarding.proofs.Sends.{verdict_home}
use Rattle.forwarding.proofs.Loop.{lost_home, forwarded_none, forwarded_lost}
use Rattle.unit.specs.Model.{model_of}
use Rattle.forwarding.proofs.forward.Goals as goal

pub count_losses-requires : goal.count_losses-requires
count_losses-requires c = (c.requires.0, omega arith, c.requires.2, lost_home c.offer-s.ensures c.requires.2 (verdict_home c.args.ports (model_of c.args.ports c.args.words.now).rest c.args.from c.args.pgn (sa_of c.args.f.id)))

pub returns-then-s-ne0 : goal.returns-then-s-ne0
returns-then-s-ne0 c = forwarded_lost c.offer-s.ensures c.count_losses.ensures

pub returns-else-s-ne0 : goal.returns-else-s-ne0
returns-else-s-ne0 c = forwarded_none c.offer-s.ensures c.args.from c.if-s-ne0.false
