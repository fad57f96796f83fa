-- `sessions::drop_at` meets its contract: one goes out, or none. Assumes nothing.

use Rattle.sessions.proofs.drop_at.Goals as goal

pub returns-in-Some : goal.returns-in-Some
returns-in-Some c = rw c.in-Some.is c.close.ensures
