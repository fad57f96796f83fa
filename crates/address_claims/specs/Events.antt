-- The claim event: its number, as C has it, and its value.
-- Assumes nothing.
use Rattle.std.specs.Prelude.{ℕ}
use Rattle.address_claims.specs.declared.Event.{Event}
use Rattle.address_claims.specs.declared.Event.TheVariants.{Nothing, Withdrew, Defended, Displaced, Recorded, Refreshed, TookOver, Beaten}

abbrev pub event_number : Event → ℕ
event_number Nothing = 0
event_number Withdrew = 1
event_number Defended = 2
event_number Displaced = 3
event_number Recorded = 4
event_number Refreshed = 5
event_number (TookOver old) = 6
event_number Beaten = 7

-- "TookOver, naming the old NAME"
abbrev pub old_name : Event → ℕ
old_name (TookOver old) = old
old_name _ = 0
