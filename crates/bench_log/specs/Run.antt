-- docs/RULES.md, "The bench log": a whole run. `run_text` of proofs/WholeRun.antt: whatever pieces a log is read in, and whatever room there is for text,
-- the text is that of the log; `run_obeys`: the calls of a run obey demand 3. Assumes nothing.
use Rattle.std.specs.Prelude.{ℕ, ◌+◌, ◌≤◌, ◌<◌, ◌⊎◌, Bool, true, false, cond, ◌≡◌, List, [], ◌∷◌, ◌++◌, eqb, length, take, drop}
use Rattle.delivery.specs.Calls.{answers_of}
use Rattle.unit.specs.Count.{ports_of}
use Rattle.unit.specs.Model.{Model}
use Rattle.demand_3.specs.Demand3.{Answer, ToFrame, ToTake, ToMessage, ToStart, ToQuiet, ToUnit, ToCounts, next, answer}
use Rattle.bench_records.specs.Records.{log_number}
use Rattle.bench_lines.specs.Lines.{line_room, refused_text}
use Rattle.bench_log.specs.declared.Stepped.{Stepped}
use Rattle.bench_log.specs.Log.{is_record, calls_of, rest_of}
use Rattle.bench_log.specs.Step.{frame_text, take_text, Stepping}

-- ---- the text of a log
-- the line of an answer; a log makes no other calls
abbrev pub line_of : Answer → List ℕ
line_of (ToFrame r) = frame_text r
line_of (ToTake r) = take_text r
line_of (ToMessage r reply) = []
line_of (ToStart r) = []
line_of (ToQuiet number) = []
line_of (ToUnit r) = []
line_of (ToCounts r) = []

abbrev pub lines_of : List Answer → List ℕ
lines_of [] = []
lines_of (x ∷ xs) = line_of x ++ lines_of xs

-- what is left where the records end: nothing, or the line of 24 or 25
abbrev pub end_text : List ℕ → List ℕ
end_text rest = cond (eqb (length rest) 0) [] (refused_text (log_number rest))

-- the lines of the book's answers over the calls of the records, on a unit of so many ports
unfoldable pub text_of : ℕ → Model → List ℕ → List ℕ
text_of ports m log = lines_of (answers_of (next ports) (answer ports) m (calls_of log)) ++ end_text (rest_of log)

-- ---- a run: steps until one says that it is over
-- Each step is given the words as the last left them and a piece of what is not yet used of the log, of any length, with any room for text; that it is the
-- last piece is said only where nothing follows it.
pub data Run : (words log text after : List ℕ) → Type 0 where
  ends : {w v log piece later lent back : List ℕ} {last : Bool} {r : Stepped} → log ≡ piece ++ later → (last ≡ true → later ≡ []) → Stepping (ports_of w) w v piece last lent back r
      → r.over ≡ true → Run w log (take r.written back) v
  goes : {w v u log piece later lent back text : List ℕ} {last : Bool} {r : Stepped} → log ≡ piece ++ later → (last ≡ true → later ≡ []) → Stepping (ports_of w) w v piece last lent back r
      → r.over ≡ false → Run v (drop r.used log) text u → Run w log (take r.written back ++ text) u

-- ---- the function `run`: steps over a piece of a log
-- Whatever follows the piece, these steps are the run of all, if they say that it is over; else they are once what is left is run behind them.
pub record Running (w v piece : List ℕ) (last : Bool) (lent back : List ℕ) (r : Stepped) : Type 0 where
  pub ended : r.over ≡ true → (later : List ℕ) → (last ≡ true → later ≡ []) → Run w (piece ++ later) (take r.written back) v
  pub went : r.over ≡ false → (later text u : List ℕ) → (last ≡ true → later ≡ []) → Run v (drop r.used (piece ++ later)) text u
      → Run w (piece ++ later) (take r.written back ++ text) u
  -- they stop for want of room or of a whole record alone
  pub stops : r.over ≡ false → (length lent < r.written + line_room) ⊎ (is_record (drop r.used piece) ≡ false)
  -- what is behind the text is untouched
  pub rest : drop r.written back ≡ drop r.written lent
  pub fits : r.used ≤ length piece
  pub near : r.written ≤ length lent
