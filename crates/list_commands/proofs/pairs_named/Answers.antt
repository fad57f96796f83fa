-- `list_commands::pairs_named` meets its contract: by the tests on the way. Assumes nothing.
use mathlib.Core.Path.{refl}
use native.Mathlib.Omega.{arith}
use Rattle.list_commands.proofs.PairLoop.{naming_all, naming_lower, naming_upper, naming_none}
use Rattle.list_commands.proofs.pairs_named.Goals as goal

pub returns-then-to-eq-ALL_PORTS : goal.returns-then-to-eq-ALL_PORTS
returns-then-to-eq-ALL_PORTS c = (naming_all _ _ c.first_pair-row.ensures.0 (omega arith) (omega arith) c.if-to-eq-ALL_PORTS.true, refl)

pub returns-then-to-from : goal.returns-then-to-from
returns-then-to-from c = (naming_lower _ _ c.first_pair-row.ensures.0 (omega arith) (omega arith) c.if-to-eq-ALL_PORTS.false (omega arith) (omega arith), refl)

pub returns-then-q-ports : goal.returns-then-q-ports
returns-then-q-ports c = (naming_upper _ _ c.first_pair-row.ensures.0 (omega arith) (omega arith) c.if-to-eq-ALL_PORTS.false (omega arith) (omega arith), refl)

pub returns : goal.returns
returns c = (naming_none _ _ c.first_pair-row.ensures.0 (omega arith) (omega arith) c.if-to-eq-ALL_PORTS.false (λ a b. omega arith), refl)
