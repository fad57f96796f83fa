-- `session::write_out` meets its contract: the bytes of each packet are stored behind those before them. Assumes nothing.
use Rattle.std.proofs.Common.{◌*◌, min}
use Rattle.session.specs.Session.{session_of, message}
use Rattle.session.specs.Calls.{Written}
use Rattle.session.proofs.write_out.Given as goal

abbrev pub invariant-loop-k : goal.invariant-loop-k
invariant-loop-k l = Written (message (session_of l.block)) l.initial.out l.out (min (7 * l.k) l.n)
