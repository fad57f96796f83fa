-- What reading a line means, for every line; `exact` and `again` of proofs/Exact.antt prove it. Assumes nothing.
use Rattle.std.specs.Prelude.{true, ◌↔◌, ◌≡◌, List, ℕ, Ok, Err}
use Rattle.candump.specs.declared.Arrival.{Arrival}
use Rattle.candump.specs.declared.refusal.Refusal.TheVariants.{NoFrame}
use Rattle.candump.specs.Line.{written, alike, Good}
use Rattle.candump.specs.Calls.{line_read}

-- "text line that no frame is written as, the time's digits aside"
abbrev pub IsWritten : List ℕ → Arrival → Type 0
IsWritten line a = Good a × (alike 19 line (written a) ≡ true)

pub record Exact (line : List ℕ) : Type 0 where
  -- a line is read as the frame that is written so
  pub frame : (a : Arrival) → (line_read line ≡ Ok a) ↔ IsWritten line a
  -- and it is refused, with 26, exactly where there is none
  pub refused : (line_read line ≡ Err NoFrame) ↔ ((a : Arrival) → IsWritten line a → ⊥)

-- "Frames written as candump text and read again are the same frames."
abbrev pub Again : Arrival → Type 0
Again a = Good a → line_read (written a) ≡ Ok a
