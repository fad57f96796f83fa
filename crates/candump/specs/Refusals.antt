-- docs/RULES.md, "The bench log": the number of each refusal, and of an answer that may be one. Assumes nothing.
use Rattle.std.specs.Prelude.{ℕ, Result, Ok, Err}
use Rattle.candump.specs.declared.refusal.Refusal.{Refusal}
use Rattle.candump.specs.declared.refusal.Refusal.TheVariants.{NoPort, NoRoom, WideIdentifier, LongFrame, UnknownKind, CutShort, NoFrame}

-- 1: port not 1 to 4; 2: no room; 3: identifier 2^29 or more; 4: length over 8; 24: unknown kind; 25: log cut short; 26: a line that no frame is written as, the
-- time's digits aside
abbrev pub number : Refusal → ℕ
number NoPort = 1
number NoRoom = 2
number WideIdentifier = 3
number LongFrame = 4
number UnknownKind = 24
number CutShort = 25
number NoFrame = 26

-- 0 where an answer is no refusal
abbrev pub number_in : {T : Type 0} → Result T Refusal → ℕ
number_in (Ok given) = 0
number_in (Err refusal) = number refusal
