-- `entries::number` meets its contract: three bytes and a 0. Assumes nothing.
use native.Mathlib.Omega.{arith}
use Rattle.entries.proofs.ThreeBytes.{number_of_three}
use Rattle.entries.proofs.number.Goals as goal

pub returns : goal.returns
returns c = number_of_three c.args.entry.now (omega arith) c.from_le_bytes.ensures
