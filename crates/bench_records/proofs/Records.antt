-- Records and turnings, case by case; and a record, read back, is the same frame. Assumes nothing.
use mathlib.Core.Path.{◌≡◌, refl, sym, ◌∙◌}
use mathlib.Core.Bool.{Bool, true, false, cond}
use mathlib.Core.List.{List}
use Prim.Native.Nat.{ℕ, min, ◌+◌, ◌-◌, ◌≤◌, ◌<◌}
use native.Mathlib.Decide.{dec_lt}
use native.Mathlib.Omega.{arith}
use borrow.Author.Tests.{lt-ltb, le-ltb, ltb-false}
use lib.Dec.{eqb, ltb}
use lib.ListN.{length, take, drop, get_or, length-take}
use lib.Seq.{take_all, take-take}
use Rattle.storage.specs.Bytes.{packed, bytes_of}
use Rattle.storage.proofs.Bytes.{bytes_of_length, bytes_back}
use Rattle.text.specs.Writing.{put, Writing}
use Rattle.text.proofs.Digits.{four_back}
use Rattle.candump.specs.declared.Arrival.{Arrival}
use Rattle.std.specs.Prelude.{Result, Ok, Err, MatchResult, IfOk}
use Rattle.candump.specs.declared.refusal.Refusal.{Refusal}
use Rattle.candump.specs.declared.refusal.Refusal.TheVariants.{NoRoom, UnknownKind, CutShort, NoFrame}
use Rattle.candump.specs.Line.{written, shows, is_line, Good}
use Rattle.candump.specs.Calls.{line_read, line_refusal, WritingLine}
use Rattle.candump.proofs.Lines.{goes, written_long}
use Rattle.candump.proofs.Exact.{exact, take_bytes}
use Rattle.bench_records.specs.Records.{kind_of, word_of, arrival_of, record_of}
use Rattle.bench_records.specs.Turning.{ToRecord, frame_refusal, text_refusal, ToText}

-- ---- the word of a record
pub word_upto : (log : List ℕ) (n : ℕ) → n ≡ min (get_or log 6 0) 8 → packed (take 8 (take (7 + n - 7) (drop 7 log))) ≡ word_of log
unfolding word_of
word_upto log n e = rw e (by (dec_lt 8 (get_or log 6 0)))
  where
    by : Dec (8 < get_or log 6 0) → packed (take 8 (take (7 + min (get_or log 6 0) 8 - 7) (drop 7 log))) ≡ packed (take (get_or log 6 0) (take 8 (drop 7 log)))
    by (yes h) =
        let z : 7 + min (get_or log 6 0) 8 - 7 ≡ 8 = omega arith in
        rw (z, take_all (get_or log 6 0) (take 8 (drop 7 log)) (omega (arith, length-take 8 (drop 7 log))), take-take 8 8 (drop 7 log) (omega arith))
    by (no m) =
        let len = get_or log 6 0 in
        let z : 7 + min len 8 - 7 ≡ len = omega arith in
        rw (z, take_all 8 (take len (drop 7 log)) (omega (arith, length-take len (drop 7 log))), take-take len 8 (drop 7 log) (omega arith))

-- ---- record to text
pub frame_whole : (log : List ℕ) → frame_refusal log ≡ Ok tt → 15 ≤ length log
frame_whole log e = by (eqb (length log) 0) (eqb (kind_of log) 1) (ltb (length log) 15) refl e
  where
    by : (p q r : Bool) → ltb (length log) 15 ≡ r → ◌≡◌ {A = Result Unit Refusal} (cond p (Err CutShort) (cond q (cond r (Err CutShort) (Ok tt)) (Err UnknownKind))) (Ok tt) → 15 ≤ length log
    by true q r f h = absurd (cc)
    by false true true f h = absurd (cc)
    by false true false f h = ltb-false (length log) 15 f
    by false false r f h = absurd (cc)

-- the line that is written has room
line_near : {lent back : List ℕ} {a : Arrival} {r : Result ℕ Refusal} → WritingLine lent back a r → IfOk r (λ n. n ≤ length lent)
line_near {lent} {back} {a} {r} w = by (line_refusal (length lent) a) refl w.outcome
  where
    by : (s : Result Unit Refusal) → line_refusal (length lent) a ≡ s
        → MatchResult s (λ u. (r ≡ Ok (length (written a))) × (back ≡ put 0 (written a) lent)) (λ e. (r ≡ Err e) × (back ≡ lent)) → IfOk r (λ n. n ≤ length lent)
    by (Ok u) e h = let g = goes (length lent) a e in rw h.0 (omega (arith, written_long a g.short, g.fits))
    by (Err x) e h = rw h.0 tt

pub text_refused : {log lent : List ℕ} {e : Refusal} → frame_refusal log ≡ Err e → ToText log lent lent (Err e)
unfolding text_refusal
text_refused h = record { outcome = rw h (refl, refl); near = tt }

pub text_written : {log lent back : List ℕ} {r : Result ℕ Refusal} → frame_refusal log ≡ Ok tt → WritingLine lent back (arrival_of log) r → ToText log lent back r
unfolding text_refusal
text_written h w = record { outcome = rw h w.outcome; near = line_near w }

-- ---- text to record
pub record_no_room : {line lent : List ℕ} → length lent < 15 → ToRecord line lent lent (Err NoRoom)
record_no_room {line} {lent} h = let e = lt-ltb (length lent) 15 h in record { answer = rw e; bytes = rw e refl }

pub read_case : (line : List ℕ) (b : Bool) → is_line line ≡ b → line_read line ≡ cond b (Ok (shows line)) (Err NoFrame)
unfolding line_read
read_case line b e = rw e

error_of_lem : {x y : Refusal} → ◌≡◌ {A = Result Arrival Refusal} (Err x) (Err y) → x ≡ y
error_of_lem e = cc

pub frame_of_lem : {a b : Arrival} → ◌≡◌ {A = Result Arrival Refusal} (Ok a) (Ok b) → a ≡ b
frame_of_lem e = cc

pub apart : {a : Arrival} {x : Refusal} {A : Type 0} → ◌≡◌ {A = Result Arrival Refusal} (Ok a) (Err x) → A
apart e = cc

pub record_refused : {line lent : List ℕ} {x : Refusal} → 15 ≤ length lent → Err x ≡ line_read line → ToRecord line lent lent (Err x)
record_refused {line} {lent} {x} h r = by (is_line line) refl
  where
    by : (b : Bool) → is_line line ≡ b → ToRecord line lent lent (Err x)
    by true e = apart (sym (r ∙ read_case line true e))
    by false e =
        let f = le-ltb (length lent) 15 h in
        let same : x ≡ NoFrame = error_of_lem (r ∙ read_case line false e) in
        record { answer = rw (f, e, same); bytes = rw (f, e) refl }

pub record_written : {line lent back : List ℕ} {a : Arrival} {m : ℕ} → 15 ≤ length lent → Ok a ≡ line_read line → Writing lent back 0 (record_of a) m
    → ToRecord line lent back (Ok tt)
record_written {line} {lent} {back} {a} {m} h r w = by (is_line line) refl
  where
    by : (b : Bool) → is_line line ≡ b → ToRecord line lent back (Ok tt)
    by true e =
        let f = le-ltb (length lent) 15 h in
        let s : a ≡ shows line = frame_of_lem (r ∙ read_case line true e) in
        record { answer = rw (f, e); bytes = rw (f, e, ← s) w.bytes }
    by false e = apart (r ∙ read_case line false e)

pub read_good : (line : List ℕ) {a : Arrival} → Ok a ≡ line_read line → Good a
read_good line {a} r = (((exact line).frame a).0 (sym r)).0

-- ---- a record, read back
module _ (a : Arrival) (good : Good a) where
  word_back : word_of (record_of a) ≡ a.bytes
  unfolding word_of record_of
  word_back =
      rw (
        take_all 8 (bytes_of 8 a.bytes) (omega (arith, bytes_of_length 8 a.bytes)),
        take_bytes a.len 8 a.bytes good.short,
      )
      (bytes_back a.len a.bytes good.filled)

  pub arrival_again : arrival_of (record_of a) ≡ a
  unfolding arrival_of record_of
  arrival_again = rw (four_back a.id (omega (arith, good.narrow)), word_back)
