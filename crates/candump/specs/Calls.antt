-- What reading and writing a line answer, and what is written. Assumes nothing.
use Rattle.std.specs.Prelude.{ℕ, ◌^◌, cond, not, ◌&&◌, ◌≡◌, List, ltb, leb, length, Result, Ok, Err, MatchResult}
use Rattle.text.specs.Writing.{put}
use Rattle.candump.specs.declared.Arrival.{Arrival}
use Rattle.candump.specs.declared.refusal.Refusal.{Refusal}
use Rattle.candump.specs.declared.refusal.Refusal.TheVariants.{NoPort, NoRoom, WideIdentifier, LongFrame, NoFrame}
use Rattle.candump.specs.Line.{written, shows, is_line}

-- refused: a line that no frame is written as, the time's digits aside
unfoldable pub line_read : List ℕ → Result Arrival Refusal
line_read line = cond (is_line line) (Ok (shows line)) (Err NoFrame)

-- port not 1 to 4; no room for the longest line; identifier 2^29 or more; length over 8
unfoldable pub line_refusal : ℕ → Arrival → Result Unit Refusal
line_refusal room a =
    cond (not (leb 1 a.port && leb a.port 4)) (Err NoPort)
    (cond (ltb room 51) (Err NoRoom)
    (cond (not (ltb a.id (2 ^ 29))) (Err WideIdentifier)
    (cond (ltb 8 a.len) (Err LongFrame) (Ok tt))))

-- the line lies at the buffer's start, and what is behind it is untouched; a refusal writes nothing
pub record WritingLine (before after : List ℕ) (a : Arrival) (r : Result ℕ Refusal) : Type 0 where
  pub outcome : MatchResult (line_refusal (length before) a) (λ u. (r ≡ Ok (length (written a))) × (after ≡ put 0 (written a) before)) (λ e. (r ≡ Err e) × (after ≡ before))
