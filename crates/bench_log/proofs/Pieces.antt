-- Steps over a piece of a log, one after the other, are a run once what follows is run behind them. Assumes nothing.
use mathlib.Core.Path.{◌≡◌, refl, sym, ap, ◌∙◌}
use mathlib.Core.Bool.{Bool, true, false}
use mathlib.Core.Logic.{◌⊎◌, inl, inr}
use mathlib.Core.List.{List, [], ◌++◌, append_assoc, append-nil}
use Prim.Native.Nat.{ℕ, ◌+◌, ◌-◌, ◌≤◌, ◌<◌}
use native.Mathlib.Omega.{arith}
use borrow.Author.Tests.{ltb-true, ltb-false, le-ltb}
use lib.Dec.{eqb, ltb}
use lib.ListN.{length, take, drop, length-append, length-drop}
use lib.Seq.{take-append-add, drop-append-add, drop-append-le, drop-drop, drop_at, drop-length, length-take-le}
use Rattle.storage.proofs.Parts.{back}
use Rattle.unit.specs.Count.{ports_of}
use Rattle.unit.specs.Model.{model_of}
use Rattle.bench_records.specs.Records.{kind_of, size_of, log_number}
use Rattle.bench_lines.specs.Lines.{line_room}
use Rattle.bench_records.proofs.Turns.{part_whole}
use Rattle.bench_log.specs.declared.Stepped.{Stepped}
use Rattle.bench_log.specs.Log.{is_record}
use Rattle.bench_log.specs.Step.{outcome, Stepping}
use Rattle.bench_log.specs.Run.{Run, ends, goes, Running}
use Rattle.bench_records.proofs.Numbers.{size_least, record_whole}

-- the steps so far
pub record Passed (w v piece : List ℕ) (last : Bool) (lent back : List ℕ) (used written : ℕ) (over : Bool) : Type 0 where
  pub ended : over ≡ true → (later : List ℕ) → (last ≡ true → later ≡ []) → Run w (piece ++ later) (take written back) v
  pub went : over ≡ false → (later text u : List ℕ) → (last ≡ true → later ≡ []) → Run v (drop used (piece ++ later)) text u
      → Run w (piece ++ later) (take written back ++ text) u
  pub rest : drop written back ≡ drop written lent
  pub fits : used ≤ length piece
  pub near : written ≤ length lent
  pub same : length back ≡ length lent

no : {A : Type 0} → true ≡ false → A
no e = absurd (let z : ◌≡◌ {A = ℕ} 0 1 = cc in omega arith)

pub passed_none : {w piece lent : List ℕ} {last : Bool} → Passed w w piece last lent lent 0 0 false
passed_none = record {
  ended = λ e. no (sym e);
  went = λ e later text u l run. run;
  rest = refl;
  fits = omega arith;
  near = omega arith;
  same = refl;
}

-- a step that used nothing and is not over found no room, or no whole record
idle : {v u piece lent part : List ℕ} {last : Bool} {s : Stepped} → Stepping (ports_of v) v u piece last lent part s → s.used ≡ 0 → s.over ≡ false
    → (length lent < line_room) ⊎ (is_record piece ≡ false)
unfolding outcome
idle {v} {u} {piece} {lent} {part} {last} {s} t z o = by (ltb (length lent) line_room) refl
  where
    known : (b : Bool) → is_record piece ≡ b → line_room ≤ length lent → (length lent < line_room) ⊎ (is_record piece ≡ false)
    known false e room = inr e
    known true e room =
        let some = record_whole piece e in
        let two = size_least (kind_of piece) in
        let long : (length piece ≡ 0 → ⊥) = λ y. omega (arith, y, some, two) in
        let used : s.used ≡ size_of (kind_of piece) = rw (le-ltb (length lent) line_room room, not_empty long, e) at t.used in
        absurd (omega (arith, used, z, two))
      where
        not_empty : (length piece ≡ 0 → ⊥) → eqb (length piece) 0 ≡ false
        not_empty n = borrow.Author.Tests.ne_eqb (length piece) 0 n

    by : (b : Bool) → ltb (length lent) line_room ≡ b → (length lent < line_room) ⊎ (is_record piece ≡ false)
    by true e = inl (ltb-true (length lent) line_room e)
    by false e = known (is_record piece) refl (ltb-false (length lent) line_room e)

-- one more step
module _ {w v u piece lent mid part : List ℕ} {last : Bool} {used written : ℕ} {s : Stepped} (p : Passed w v piece last lent mid used written false)
    (t : Stepping (ports_of v) v u (drop used piece) last (drop written mid) part s) where
  left : (later : List ℕ) → drop used (piece ++ later) ≡ drop used piece ++ later
  left later = drop-append-le used piece later p.fits

  front : length (take written mid) ≡ written
  front = length-take-le written mid (omega (arith, p.near, p.same))

  text_on : take (written + s.written) (take written mid ++ part) ≡ take written mid ++ take s.written part
  text_on = rw front at (take-append-add (take written mid) part s.written)

  rest_on : drop (written + s.written) (take written mid ++ part) ≡ drop s.written part
  rest_on = rw front at (drop-append-add (take written mid) part s.written)

  rest_part : drop s.written part ≡ drop s.written (drop written mid)
  rest_part =
      let text = (outcome (ports_of v) (length (drop written mid)) (length v) (model_of (ports_of v) v) (drop used piece) last).text in
      rw t.text (drop_at text (drop (0 + length text) (drop written mid)) s.written (sym t.written) ∙ ap (λ n. drop n (drop written mid)) (same_length t.written))
    where
      same_length : {m n : ℕ} → m ≡ n → 0 + n ≡ m
      same_length e = omega (arith, e)

  pub passed_step : length part ≡ length (drop written mid)
      → Passed w u piece last lent (take written mid ++ part) (used + s.used) (written + s.written) s.over
  passed_step same = record {
    ended = λ e later l. rw text_on (p.went refl later (take s.written part) u l (ends (left later) l t e));
    went = λ e later text x l run.
        rw (text_on, append_assoc)
        (p.went refl later (take s.written part ++ text) x l (goes (left later) l t e (rw drop-drop run)));
    rest = rest_on ∙ (rest_part ∙ rw p.rest (drop-drop s.written written lent));
    fits = omega (arith, t.fits, length-drop used piece, p.fits);
    near = omega (arith, t.near, length-drop written mid, p.near, p.same);
    same = omega (arith, length-append (take written mid) part, front, same, length-drop written mid, p.near, p.same);
  }

-- ---- the loop
pub record Going (w v piece : List ℕ) (last : Bool) (lent mid : List ℕ) (used written : ℕ) (over going : Bool) : Type 0 where
  pub passed : Passed w v piece last lent mid used written over
  pub on : going ≡ true → over ≡ false
  pub idles : going ≡ false → over ≡ false → (length lent < written + line_room) ⊎ (is_record (drop used piece) ≡ false)
  pub words : length v ≡ length w

pub going_none : {w piece lent : List ℕ} {last : Bool} → Going w w piece last lent lent 0 0 false true
going_none = record { passed = passed_none; on = λ e. refl; idles = λ e. no e; words = refl }

-- a step that used something is not over
goes_on_lem : {v u piece lent part : List ℕ} {last : Bool} {s : Stepped} → Stepping (ports_of v) v u piece last lent part s → 0 < s.used → s.over ≡ false
unfolding outcome
goes_on_lem {v} {u} {piece} {lent} {part} {last} {s} t some = by (ltb (length lent) line_room) (eqb (length piece) 0) (eqb (log_number piece) 0) (eqb (log_number piece) 25) last refl refl refl refl refl
  where
    none : {A : Type 0} → s.used ≡ 0 → A
    none z = absurd (omega (arith, z, some))

    by : (a b c d e : Bool) → ltb (length lent) line_room ≡ a → eqb (length piece) 0 ≡ b → eqb (log_number piece) 0 ≡ c → eqb (log_number piece) 25 ≡ d → last ≡ e
        → s.over ≡ false
    by true b c d e room empty whole cut end = none (rw room at t.used)
    by false true c d e room empty whole cut end = none (rw (room, empty) at t.used)
    by false false true d e room empty whole cut end = rw (room, empty, whole) at t.over
    by false false false true true room empty whole cut end = none (rw (room, empty, whole, cut, end) at t.used)
    by false false false true false room empty whole cut end = none (rw (room, empty, whole, cut, end) at t.used)
    by false false false false e room empty whole cut end = none (rw (room, empty, whole, cut) at t.used)

-- a part that was lent to the end came back
to_end : (written : ℕ) (mid part : List ℕ) → written ≤ length mid → back written (length mid - written) mid part ≡ take written mid ++ part
to_end written mid part near =
    let e : written + (length mid - written) ≡ length mid = omega arith in
    rw (drop-drop (length mid - written) written mid, e, drop-length mid, append-nil part)

module _ {w v u piece lent mid part : List ℕ} {last over : Bool} {used written : ℕ} {s : Stepped} (g : Going w v piece last lent mid used written over true)
    (t : Stepping (ports_of v) v u (take (length piece - used) (drop used piece)) last (take (length mid - written) (drop written mid)) part s)
    (long : length part ≡ length mid - written) where
  so_far : Passed w v piece last lent mid used written false
  so_far = rw (g.on refl) at g.passed

  one_more_lem : Stepping (ports_of v) v u (drop used piece) last (drop written mid) part s
  one_more_lem = rw (part_whole piece used, part_whole mid written) at t

  stopped : ltb 0 s.used ≡ false → s.over ≡ false
      → (length lent < written + s.written + line_room) ⊎ (is_record (drop (used + s.used) piece) ≡ false)
  stopped e o = which (idle one_more_lem z o)
    where
      z : s.used ≡ 0
      z = omega (arith, ltb-false 0 s.used e)

      which : (length (drop written mid) < line_room) ⊎ (is_record (drop used piece) ≡ false)
          → (length lent < written + s.written + line_room) ⊎ (is_record (drop (used + s.used) piece) ≡ false)
      which (inl h) = inl (omega (arith, h, length-drop written mid, so_far.near, so_far.same))
      which (inr h) = let same : used + s.used ≡ used = omega (arith, z) in inr (rw same h)

  pub going_step : Going w u piece last lent (back written (length mid - written) mid part) (used + s.used) (written + s.written) s.over (ltb 0 s.used)
  going_step = record {
    passed = rw (to_end written mid part (omega (arith, so_far.near, so_far.same))) (passed_step so_far one_more_lem (long ∙ sym (length-drop written mid)));
    on = λ e. goes_on_lem one_more_lem (ltb-true 0 s.used e);
    idles = stopped;
    words = t.long ∙ g.words;
  }

-- it goes on, so it is not over
pub going_on : {w v piece lent mid : List ℕ} {last over : Bool} {used written : ℕ} → Going w v piece last lent mid used written over true
    → Going w v piece last lent mid used written false true
going_on g = rw (g.on refl) at g

pub going_done : {w v piece lent mid : List ℕ} {last over : Bool} {used written : ℕ} → Going w v piece last lent mid used written over false
    → Running w v piece last lent mid (record { used = used; written = written; over = over })
going_done g = record {
  ended = g.passed.ended;
  went = g.passed.went;
  stops = g.idles refl;
  rest = g.passed.rest;
  fits = g.passed.fits;
  near = g.passed.near;
}
