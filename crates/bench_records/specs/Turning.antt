-- docs/RULES.md, "The bench log": a line of text turned into a record, and a record into a line. Assumes nothing.
use Rattle.std.specs.Prelude.{ℕ, ◌≤◌, cond, ◌≡◌, List, eqb, ltb, length, Result, Ok, Err, MatchResult, IfOk}
use Rattle.std.specs.Result.{result_and}
use Rattle.text.specs.Writing.{put}
use Rattle.candump.specs.declared.refusal.Refusal.{Refusal}
use Rattle.candump.specs.declared.refusal.Refusal.TheVariants.{NoRoom, UnknownKind, CutShort, NoFrame}
use Rattle.candump.specs.Line.{written, shows, is_line}
use Rattle.candump.specs.Refusals.{number_in}
use Rattle.candump.specs.Calls.{line_refusal}
use Rattle.bench_records.specs.Records.{frame_size, kind_of, size_of, log_number, record_of, arrival_of}

-- ---- the record at the front of a log
pub record Fronting (log : List ℕ) (r : Result ℕ Refusal) : Type 0 where
  pub number : number_in r ≡ log_number log
  pub size : IfOk r (λ n. n ≡ size_of (kind_of log))
  -- for callers: it is there
  pub fits : IfOk r (λ n. n ≤ length log)

-- ---- text to record
-- no room for a record; a line that no frame is written as
abbrev pub record_refusal : ℕ → List ℕ → Result Unit Refusal
record_refusal room line = cond (ltb room frame_size) (Err NoRoom) (cond (is_line line) (Ok tt) (Err NoFrame))

-- a refused turning writes nothing
pub record ToRecord (line before after : List ℕ) (r : Result Unit Refusal) : Type 0 where
  pub answer : r ≡ record_refusal (length before) line
  pub bytes : MatchResult (record_refusal (length before) line) (λ u. after ≡ put 0 (record_of (shows line)) before) (λ e. after ≡ before)

-- ---- record to text
-- "To text, a take gets 24"; 24 and 25 before any other
abbrev pub frame_refusal : List ℕ → Result Unit Refusal
frame_refusal log = cond (eqb (length log) 0) (Err CutShort) (cond (eqb (kind_of log) 1) (cond (ltb (length log) frame_size) (Err CutShort) (Ok tt)) (Err UnknownKind))

-- then 1, 2, 3, 4
unfoldable pub text_refusal : ℕ → List ℕ → Result Unit Refusal
text_refusal room log = result_and (frame_refusal log) (line_refusal room (arrival_of log))

pub record ToText (log before after : List ℕ) (r : Result ℕ Refusal) : Type 0 where
  pub outcome : MatchResult (text_refusal (length before) log)
      (λ u. (r ≡ Ok (length (written (arrival_of log)))) × (after ≡ put 0 (written (arrival_of log)) before))
      (λ e. (r ≡ Err e) × (after ≡ before))
  -- for callers: what was written had room
  pub near : IfOk r (λ n. n ≤ length before)
