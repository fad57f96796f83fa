-- `record::sender` meets its contract: an address past the table has no NAME, another the one of its place. Assumes nothing.
use native.Mathlib.Omega.{arith}
use Rattle.addresses.specs.Table.{name_in, name_at}
use Rattle.record.proofs.Regions.{name_past}
use Rattle.record.proofs.sender.Goals as goal

pub returns-then-address-gt253 : goal.returns-then-address-gt253
returns-then-address-gt253 c = λ ports. name_past ports c.args.words.now c.args.address (omega arith)

pub returns-in-None : goal.returns-in-None
unfolding name_at name_in
returns-in-None c = λ ports. rw (← (c.holder.ensures ports), c.in-None.is)

pub returns-in-Some : goal.returns-in-Some
unfolding name_at name_in
returns-in-Some c = λ ports. rw (← (c.holder.ensures ports), c.in-Some.is)
