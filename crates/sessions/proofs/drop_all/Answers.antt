-- `sessions::drop_all` meets its contract: the count is 0. Assumes nothing.
use native.Mathlib.Omega.{arith}
use Rattle.sessions.proofs.Talk.{empties}
use Rattle.sessions.proofs.drop_all.Goals as goal

pub returns : goal.returns
returns c = empties c.args.port.now (omega arith)
