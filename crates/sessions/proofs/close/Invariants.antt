-- `sessions::close` meets its contract: each block behind is copied down, then the count is one less. Assumes nothing.
use Rattle.std.proofs.Common.{◌≡◌}
use Rattle.sessions.specs.Sessions.{blocks_in}
use Rattle.sessions.proofs.Lists.{shifted}
use Rattle.sessions.proofs.close.Given as goal

abbrev pub invariant-loop-place : goal.invariant-loop-place
invariant-loop-place l = blocks_in l.port ≡ shifted l.i l.place (blocks_in l.initial.port)
