-- `name_entries::agree` meets its contract. Assumes nothing.
use native.Mathlib.Omega.{arith}
use Rattle.name_entries.proofs.Bits.{agree_is}
use Rattle.name_entries.proofs.agree.Goals as goal

pub returns : goal.returns
returns c = agree_is c.args.mask c.args.a c.args.b (omega arith)
