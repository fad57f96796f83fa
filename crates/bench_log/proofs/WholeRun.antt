-- A run's text is that of its log, in whatever pieces it is read; and its calls obey demand 3. Assumes nothing.
use mathlib.Core.Path.{◌≡◌, refl, sym, ◌∙◌}
use mathlib.Core.Bool.{Bool, true, false, cond}
use mathlib.Core.List.{List, [], ◌∷◌, ◌++◌, append_assoc, append-nil}
use Prim.Native.Nat.{ℕ, ◌+◌, ◌<◌}
use native.Mathlib.Omega.{arith}
use borrow.Author.Tests.{eq-eqb, ne_eqb, eqb-true, eqb-false}
use lib.Dec.{eqb, ltb}
use lib.ListN.{length, take, drop, length-append}
use lib.Seq.{take_at}
use Rattle.delivery.specs.Calls.{after_calls, answers_of}
use Rattle.unit.specs.Count.{ports_of}
use Rattle.unit.proofs.Count.{count_same}
use Rattle.unit.specs.Model.{Model, model_of, record_length}
use Rattle.unit.specs.PowerOn.{PoweringOn, fresh}
use Rattle.demand_3.specs.Demand3.{next, answer, Demand3}
use Rattle.demand_3.proofs.Demand3.{from_book, good_then}
use Rattle.bench_records.specs.Records.{kind_of, size_of, log_number}
use Rattle.bench_lines.specs.Lines.{line_room, refused_text}
use Rattle.bench_log.specs.declared.Stepped.{Stepped}
use Rattle.bench_log.specs.Log.{call_of, is_record, after, calls_of, rest_of}
use Rattle.bench_log.specs.Step.{call_text, outcome, on_log, Outcome, Stepping}
use Rattle.bench_log.specs.Run.{line_of, lines_of, end_text, text_of, Run, ends, goes}
use Rattle.bench_records.proofs.Numbers.{size_least, record_whole}
use Rattle.bench_log.proofs.Log.{calls_step, rest_step, calls_none, rest_none, Which, whole, short, unknown, which, unknown_piece, kind_piece, record_piece, call_piece}

module _ (ports : ℕ) where
  abbrev words : ℕ
  words = record_length ports

  -- ---- the line of a call is that of its answer
  call_line : (m : Model) (b : Bool) (log : List ℕ) → eqb (kind_of log) 1 ≡ b → call_text ports words m (call_of log) ≡ line_of (answer ports m (call_of log))
  unfolding call_text answer call_of
  call_line m true log e = rw e
  call_line m false log e = rw e

  -- ---- the text of a log, record by record
  pub text_record : (m : Model) (log : List ℕ) → is_record log ≡ true → text_of ports m log ≡ line_of (answer ports m (call_of log)) ++ text_of ports (next ports m (call_of log)) (after log)
  unfolding text_of
  text_record m log e =
      rw (calls_step log e, rest_step log e)
      (append_assoc (line_of (answer ports m (call_of log))) (lines_of (answers_of (next ports) (answer ports) (next ports m (call_of log)) (calls_of (after log)))) (end_text (rest_of (after log))))

  pub text_none : (m : Model) (log : List ℕ) → is_record log ≡ false → text_of ports m log ≡ end_text log
  unfolding text_of
  text_none m log e = rw (calls_none log e, rest_none log e)

  -- ---- what one step does to a log of which it is given a piece
  -- Either it is over, and the text is all there is; or the text and that of what is left are all there is.
  pub record Steps (m : Model) (log : List ℕ) (o : Outcome) : Type 0 where
    pub last : o.over ≡ true → text_of ports m log ≡ o.text
    pub calls_last : o.over ≡ true → (calls_of log ≡ []) × (o.model ≡ m)
    pub more : o.over ≡ false → text_of ports m log ≡ o.text ++ text_of ports o.model (drop o.used log)
    pub calls_more : o.over ≡ false → after_calls (next ports) m (calls_of log) ≡ after_calls (next ports) o.model (calls_of (drop o.used log))

  no : {A : Type 0} → true ≡ false → A
  no e = absurd (let z : ◌≡◌ {A = ℕ} 0 1 = cc in omega arith)

  not_zero : (n : ℕ) → (n ≡ 0 → ⊥) → eqb n 0 ≡ false
  not_zero n h = ne_eqb n 0 h

  -- nothing was done
  steps_still : (m : Model) (log : List ℕ) → Steps m log (record { model = m; text = []; used = 0; over = false })
  steps_still m log = record { last = λ e. no (sym e); calls_last = λ e. no (sym e); more = λ e. refl; calls_more = λ e. refl }

  -- the end of the log
  steps_end : (m : Model) (log : List ℕ) → length log ≡ 0 → Steps m log (record { model = m; text = []; used = 0; over = true })
  unfolding log_number
  steps_end m [] e = record { last = λ z. text_none m [] refl; calls_last = λ z. (calls_none [] refl, refl); more = λ z. no z; calls_more = λ z. no z }
  steps_end m (c ∷ log) e = absurd (omega arith)

  -- 24 or 25
  steps_refused : (m : Model) (log : List ℕ) (n : ℕ) → (length log ≡ 0 → ⊥) → log_number log ≡ n → (n ≡ 0 → ⊥)
      → Steps m log (record { model = m; text = refused_text n; used = 0; over = true })
  steps_refused m log n some e z =
      let no_record : is_record log ≡ false = rw e (not_zero n z) in
      record {
        last = λ y. text_none m log no_record ∙ rw (not_zero (length log) some, e);
        calls_last = λ y. (calls_none log no_record, refl);
        more = λ y. no y;
        calls_more = λ y. no y;
      }

  -- a record, whole in the piece
  steps_record : (m : Model) (piece later : List ℕ) → is_record piece ≡ true
      → Steps m (piece ++ later)
      (record { model = next ports m (call_of piece); text = call_text ports words m (call_of piece); used = size_of (kind_of piece); over = false })
  steps_record m piece later e =
      let two = size_least (kind_of piece) in
      let long = record_whole piece e in
      let log = piece ++ later in
      let rec = record_piece piece later e in
      let same = call_piece piece later e in
      let kind = kind_piece piece later (omega arith) in
      record {
        last = λ z. no (sym z);
        calls_last = λ z. no (sym z);
        more = λ z. text_record m log rec ∙ rw (same, kind, call_line m (eqb (kind_of piece) 1) piece refl);
        calls_more = λ z. rw (calls_step log rec, same, kind);
      }

  -- any step
  on_log_lem : (m : Model) (piece later : List ℕ) (last : Bool) → (last ≡ true → later ≡ []) → (length piece ≡ 0 → ⊥) → Which piece
      → Steps m (piece ++ later) (on_log ports words m piece last)
  on_log_lem m piece later last l some (whole e) = rw (not_zero (length piece) some, e) (steps_record m piece later (eq-eqb (log_number piece) 0 e))
  on_log_lem m piece later true l some (short e) =
      rw (not_zero (length piece) some, e, l refl, append-nil piece) (steps_refused m piece 25 some e (λ z. omega arith))
  on_log_lem m piece later false l some (short e) = rw (not_zero (length piece) some, e) (steps_still m (piece ++ later))
  on_log_lem m piece later last l some (unknown e f) =
      rw (not_zero (length piece) some, e)
      (steps_refused m (piece ++ later) 24 (λ z. some (omega (arith, z, length-append piece later))) (unknown_piece piece later (positive piece some) f) (λ z. omega arith))
    where
      positive : (xs : List ℕ) → (length xs ≡ 0 → ⊥) → 0 < length xs
      positive [] n = absurd (n refl)
      positive (x ∷ xs) n = omega arith

  empty_piece : (m : Model) (piece later : List ℕ) (last : Bool) → (last ≡ true → later ≡ []) → length piece ≡ 0 → Steps m (piece ++ later) (on_log ports words m piece last)
  empty_piece m piece later true l z = rw (eq-eqb (length piece) 0 z, l refl, append-nil piece) (steps_end m piece z)
  empty_piece m piece later false l z = rw (eq-eqb (length piece) 0 z) (steps_still m (piece ++ later))

  any_step : (m : Model) (room : ℕ) (piece later : List ℕ) (last : Bool) → (last ≡ true → later ≡ []) → Steps m (piece ++ later) (outcome ports room words m piece last)
  unfolding outcome
  any_step m room piece later last l = by (ltb room line_room) refl
    where
      onto : (b : Bool) → eqb (length piece) 0 ≡ b → Steps m (piece ++ later) (on_log ports words m piece last)
      onto true e = empty_piece m piece later last l (eqb-true (length piece) 0 e)
      onto false e = on_log_lem m piece later last l (eqb-false (length piece) 0 e) (which piece)

      by : (b : Bool) → ltb room line_room ≡ b → Steps m (piece ++ later) (cond (ltb room line_room) (record { model = m; text = []; used = 0; over = false }) (on_log ports words m piece last))
      by true e = rw e (steps_still m (piece ++ later))
      by false e = rw e (onto (eqb (length piece) 0) refl)

  -- ---- a run
  -- the text that a step wrote, off the buffer
  off : {w v piece lent back : List ℕ} {last : Bool} {r : Stepped} → Stepping ports w v piece last lent back r
      → take r.written back ≡ (outcome ports (length lent) (length w) (model_of ports w) piece last).text
  off {w} {v} {piece} {lent} {back} {last} {r} s =
      let text = (outcome ports (length lent) (length w) (model_of ports w) piece last).text in
      rw s.text (take_at text (drop (0 + length text) lent) r.written (sym s.written))

  pub run_text : {w log text v : List ℕ} → ports_of w ≡ ports → length w ≡ words → Run w log text v
      → (text ≡ text_of ports (model_of ports w) log) × (model_of ports v ≡ after_calls (next ports) (model_of ports w) (calls_of log))
  run_text {w} count long (ends {piece = piece} {later = later} {lent = lent} {last = last} e l step over) =
      let s = rw count at step in
      let steps = any_step (model_of ports w) (length lent) piece later last l in
      let done = rw long at s.over in
      let z = sym done ∙ over in
      let last-calls = steps.calls_last z in (
        off s ∙ rw (long, e) (sym (steps.last z)),
        s.state ∙ rw (long, e, last-calls.0) last-calls.1,
      )
  run_text {w} count long (goes {v = v} {piece = piece} {later = later} {lent = lent} {last = last} e l step over rest) =
      let s = rw count at step in
      let steps = any_step (model_of ports w) (length lent) piece later last l in
      let z = sym (rw long at s.over) ∙ over in
      let later-on = run_text (step.count ∙ count) (s.long ∙ long) rest in (
        rw (off s, later-on.0, s.state, s.used, long, e) (sym (steps.more z)),
        later-on.1 ∙ rw (s.state, s.used, long, e) (sym (steps.calls_more z)),
      )

  -- "Reading in pieces of any size is the same as reading at once": two runs of one log on units that mean the same
  pub same_text : {w w' log text text' v v' : List ℕ} → ports_of w ≡ ports → ports_of w' ≡ ports → length w ≡ words → length w' ≡ words
      → model_of ports w ≡ model_of ports w' → Run w log text v → Run w' log text' v'
      → text ≡ text'
  same_text count count' long long' same run run' = (run_text count long run).0 ∙ rw same (sym (run_text count' long' run').0)

-- from power-on with four ports on, with NAME 0 and any preferred address, demand 3 holds of the run's calls, and the text is that of the book's answers
pub run_obeys : {before w log text v : List ℕ} {preferred r : ℕ} → PoweringOn 4 before w 0 preferred r → r ≡ 0 → Run w log text v
    → (text ≡ text_of 4 (fresh 4 0 preferred) log) × Demand3 4 0 preferred (calls_of log) (answers_of (next 4) (answer 4) (fresh 4 0 preferred) (calls_of log)) v
run_obeys {log = log} {v = v} {preferred = preferred} {r = r} p z run =
    let n : (r ≡ 2 → ⊥) = λ e. omega (arith, z, e) in
    let four = count_same {count = 4} (omega arith) (omega arith) in
    let good = rw four at (good_then p n) in
    let made = rw four at (p.state n) in
    let all = run_text 4 good.1 good.0 run in (
      rw made at all.0,
      from_book 4 0 preferred (calls_of log) (answers_of (next 4) (answer 4) (fresh 4 0 preferred) (calls_of log)) v refl (rw made at all.1),
    )
