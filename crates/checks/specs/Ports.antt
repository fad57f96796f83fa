-- Ports are counted from 1, as on the wire.
-- Assumes nothing.
use Rattle.std.specs.Prelude.{Bool, not, ◌&&◌, ℕ, leb}

-- whether a unit of that many ports has a port of that number
unfoldable pub is_port : ℕ → ℕ → Bool
is_port ports port = leb 1 port && leb port ports

-- number 1: port not 1 to the number of ports
abbrev pub no_port : ℕ → ℕ → Bool
no_port ports port = not (is_port ports port)
