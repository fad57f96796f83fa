-- A port is within its bounds. Assumes nothing.
use mathlib.Core.Path.{◌≡◌}
use mathlib.Core.Bool.{true}
use Prim.Native.Nat.{ℕ, ◌≤◌}
use borrow.Author.Tests.{leb-true}
use lib.Dec.{leb}
use Rattle.checks.specs.Ports.{is_port}
use Rattle.checks.proofs.Tests.{both}

pub port_bounds : (ports port : ℕ) → is_port ports port ≡ true → (1 ≤ port) × (port ≤ ports)
unfolding is_port
port_bounds ports port e =
    let p = both (leb 1 port) (leb port ports) e in
    (leb-true 1 port p.0, leb-true port ports p.1)
