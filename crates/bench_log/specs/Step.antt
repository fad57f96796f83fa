-- docs/RULES.md, "The bench log": one step of a run. `lent` is the length of the unit's record that was lent. Assumes nothing.
use Rattle.std.specs.Prelude.{ℕ, ◌≤◌, Bool, true, false, cond, ◌≡◌, List, [], eqb, ltb, length}
use Rattle.text.specs.Writing.{put, Writing}
use Rattle.unit.specs.Count.{ports_of}
use Rattle.unit.specs.Model.{Model, model_of}
use Rattle.bridge.specs.Told.{FrameTold, TakeTold, Refused, Took}
use Rattle.bridge.specs.Calls.{Call, FrameIn, TakeOut, Message, Start, Quiet, ReadUnit, ReadCounts, frame_answer, take_answer, refusal, next, Calling}
use Rattle.bench_log.specs.declared.Stepped.{Stepped}
use Rattle.bench_records.specs.Records.{kind_of, size_of, log_number}
use Rattle.bench_lines.specs.Lines.{line_room, refused_text, passed_text, taken_text}
use Rattle.bench_log.specs.Log.{call_of}

-- the lines that answers print
abbrev pub frame_text : FrameTold → List ℕ
frame_text r = cond (eqb r.refusal 0) (passed_text r.accepted r.lost) (refused_text r.refusal)

abbrev pub take_text : TakeTold → List ℕ
take_text (Refused number) = refused_text number
take_text (Took taken) = taken_text taken

-- the line that a call prints: a log has frames and takes alone
unfoldable pub call_text : ℕ → ℕ → Model → Call → List ℕ
call_text ports lent m (FrameIn port id bytes) = frame_text (frame_answer ports lent m port id bytes)
call_text ports lent m (TakeOut port) = take_text (take_answer ports lent m port)
call_text ports lent m (Message port requester payload lentReply) = []
call_text ports lent m Start = []
call_text ports lent m Quiet = []
call_text ports lent m ReadUnit = []
call_text ports lent m (ReadCounts port) = []

-- one record's call, and its line at the start of the buffer
pub record Doing (ports : ℕ) (before after : List ℕ) (k : Call) (lent back : List ℕ) (r : ℕ) : Type 0 where
  pub call : Calling ports before after k
  pub line : Writing lent back 0 (call_text ports (length before) (model_of ports before) k) r

-- what a step comes to: the model, the text that it prints, the bytes of the log that it used, whether the run is over
pub record Outcome : Type 0 where
  pub model : Model
  pub text : List ℕ
  pub used : ℕ
  pub over : Bool

-- nothing is done: there is no room, or the log has no whole record yet
abbrev pub still : Model → Bool → Outcome
still m over = record { model = m; text = []; used = 0; over = over }

-- "24 and 25 end the run with their line"
abbrev pub ends : Model → ℕ → Outcome
ends m number = record { model = m; text = refused_text number; used = 0; over = true }

abbrev pub does : ℕ → ℕ → Model → List ℕ → Outcome
does ports lent m log = record { model = next ports lent m (call_of log); text = call_text ports lent m (call_of log); used = size_of (kind_of log); over = false }

-- `last`: nothing follows this log. A log that ends in the middle of a record is cut short if nothing follows.
abbrev pub on_log : ℕ → ℕ → Model → List ℕ → Bool → Outcome
on_log ports lent m log last =
    cond (eqb (length log) 0)
    (still m last)
    (cond (eqb (log_number log) 0)
    (does ports lent m log)
    (cond (eqb (log_number log) 25) (cond last (ends m 25) (still m false)) (ends m 24)))

pub record Cutting (last : Bool) (lent back : List ℕ) (r : Stepped) : Type 0 where
  pub text : back ≡ put 0 (cond last (refused_text 25) []) lent
  pub used : r.used ≡ 0
  pub written : r.written ≡ length (cond last (refused_text 25) [])
  pub over : r.over ≡ last

-- `room`: the bytes that were lent for text
unfoldable pub outcome : ℕ → ℕ → ℕ → Model → List ℕ → Bool → Outcome
outcome ports room lent m log last = cond (ltb room line_room) (still m false) (on_log ports lent m log last)

pub record Stepping (ports : ℕ) (before after log : List ℕ) (last : Bool) (lent back : List ℕ) (r : Stepped) : Type 0 where
  pub long : length after ≡ length before
  pub count : ports_of after ≡ ports_of before
  pub state : model_of ports after ≡ (outcome ports (length lent) (length before) (model_of ports before) log last).model
  pub text : back ≡ put 0 (outcome ports (length lent) (length before) (model_of ports before) log last).text lent
  pub used : r.used ≡ (outcome ports (length lent) (length before) (model_of ports before) log last).used
  pub written : r.written ≡ length (outcome ports (length lent) (length before) (model_of ports before) log last).text
  pub over : r.over ≡ (outcome ports (length lent) (length before) (model_of ports before) log last).over
  -- nothing used, or a record that the unit refuses: not a word of the unit's changes
  pub kept : r.used ≡ 0 → after ≡ before
  pub refused : (refusal ports (length before) (model_of ports before).rest (call_of log) ≡ 0 → ⊥) → after ≡ before
  -- for callers: what was used is there, and what was written had room
  pub fits : r.used ≤ length log
  pub near : r.written ≤ length lent
