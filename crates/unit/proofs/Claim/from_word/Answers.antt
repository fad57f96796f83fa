-- `Claim::from_word` meets its contract: by the word. Assumes nothing.
use Rattle.std.proofs.Common.{arith}
use Rattle.unit.specs.Model.{claim_from}
use Rattle.unit.proofs.Own.{lost_from_lem}
use Rattle.unit.proofs.Claim.from_word.Goals as goal

pub returns-in-0 : goal.returns-in-0
unfolding claim_from
returns-in-0 c = rw c.in-0.is

pub returns-in-1 : goal.returns-in-1
unfolding claim_from
returns-in-1 c = rw c.in-1.is

pub returns-in-2 : goal.returns-in-2
unfolding claim_from
returns-in-2 c = rw c.in-2.is

pub returns-in_default : goal.returns-in_default
returns-in_default c = lost_from_lem c.args.word (omega arith)
