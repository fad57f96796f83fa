-- What a command names, and what holds of every command that is decoded. These are what the laws of the decoder say.
-- Assumes nothing.
use Rattle.std.specs.Prelude.{Bool, true, cond, not, ◌&&◌, ◌⊎◌, ◌≡◌, List, ℕ, ◌≤◌, length, eqb}
use Rattle.entries.specs.Entries.{well_formed}
use Rattle.network_message.specs.Asked.{Asked, Refused, Request, WithEntries, Clear, AddressList, Parameter, Reset, PairParameter, PairReset}
use Rattle.checks.specs.Checks.{acknowledges}
use Rattle.network_message.specs.Decoding.{all_ports, is_general, is_held, between}
use Rattle.checks.specs.Ports.{is_port}

-- ---- what is named: no pair, those from a port to one or to all, a port, or the unit as a whole
pub data Named : Type 0 where
  none : Named
  pairs : ℕ → ℕ → Named
  port : ℕ → Named
  whole : Named

unfoldable pub named : Asked → Named
named (Refused number entry) = none
named (Request from to) = pairs from to
named (WithEntries change from to start end) = pairs from to
named (Clear from to) = pairs from to
named (AddressList p) = port p
named (Parameter parameter) = whole
named Reset = whole
named (PairParameter from to parameter) = pairs from to
named (PairReset from to) = pairs from to

-- by the function and the halves of the pair byte
unfoldable pub named_by : ℕ → ℕ → ℕ → Named
named_by function from to = cond (is_general function) whole (cond (eqb function 64) (port to) (pairs from to))

-- whether the pair from → q is named: "15, all pairs from that port"
unfoldable pub reaches : ℕ → ℕ → ℕ → ℕ → Bool
reaches ports from to q = cond (eqb to all_ports) (is_port ports q && not (eqb q from)) (eqb q to)

-- a tool's own: "every named pair must have p as From or To, and 64 must name p"; "the general functions are port 1's alone"
abbrev pub Own : ℕ → ℕ → Named → Type 0
Own ports p none = Unit {0}
Own ports p (pairs from to) = (q : ℕ) → reaches ports from to q ≡ true → (from ≡ p) ⊎ (q ≡ p)
Own ports p (port q) = q ≡ p
Own ports p whole = p ≡ 1

-- ---- what the numbers in a command are
pub record Ports (ports from to : ℕ) : Type 0 where
  pub least : 1 ≤ from
  pub most : from ≤ ports
  pub other : ((1 ≤ to) × (to ≤ ports)) ⊎ (to ≡ all_ports)
  pub apart : from ≡ to → ⊥

pub record Holding (start end : ℕ) (payload : List ℕ) : Type 0 where
  pub forward : start ≤ end
  pub inside : end ≤ length payload
  pub formed : well_formed (between start end payload) ≡ true

abbrev pub Good : ℕ → List ℕ → Asked → Type 0
Good ports payload (Refused number entry) = acknowledges number ≡ true
Good ports payload (Request from to) = Ports ports from to × (to ≤ ports)
Good ports payload (WithEntries change from to start end) = Ports ports from to × Holding start end payload
Good ports payload (Clear from to) = Ports ports from to
Good ports payload (AddressList p) = (1 ≤ p) × (p ≤ ports)
Good ports payload (Parameter parameter) = is_held parameter ≡ true
Good ports payload Reset = Unit {0}
Good ports payload (PairParameter from to parameter) = Ports ports from to × (to ≤ ports) × (is_held parameter ≡ true)
Good ports payload (PairReset from to) = Ports ports from to × (to ≤ ports)
