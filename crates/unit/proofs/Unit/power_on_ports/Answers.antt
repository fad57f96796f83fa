-- `Unit::power_on_ports` meets its contract: zeros, and the fresh unit stored. Assumes nothing.
use Rattle.unit.proofs.Own.{powered, powered_with_four, not_powered}
use mathlib.Core.Path.{◌≡◌, sym, ◌∙◌}
use native.Mathlib.Omega.{arith}
use Rattle.unit.proofs.Unit.power_on_ports.Goals as goal

pub returns-then-words-record_length : goal.returns-then-words-record_length
returns-then-words-record_length c = not_powered c.count_of-ports.ensures.count (λ e. c.if-words-record_length.true (e ∙ sym c.record_length.ensures))

pub store_unit-requires : goal.store_unit-requires
store_unit-requires c = let e : c.fresh-unit.result.ports ≡ c.count_of-ports.result = rw c.fresh-unit.ensures in
    (omega arith, omega (arith, c.count_of-ports.ensures.least), omega (arith, c.count_of-ports.ensures.most))

pub returns-then-ports-count : goal.returns-then-ports-count
returns-then-ports-count c = powered_with_four c.count_of-ports.ensures.count (c.if-words-record_length.false ∙ c.record_length.ensures) (omega arith) (c.fill.ensures.after (λ y e. e)) c.fresh-unit.ensures (c.store_unit.ensures _) c.if-ports-count.true

pub returns : goal.returns
returns c = powered c.count_of-ports.ensures.count (c.if-words-record_length.false ∙ c.record_length.ensures) (omega arith) (c.fill.ensures.after (λ y e. e)) c.fresh-unit.ensures (c.store_unit.ensures _) c.if-ports-count.false
