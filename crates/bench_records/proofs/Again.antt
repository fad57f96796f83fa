-- A frame's record, turned into a line and back, is the same record. Assumes nothing.
use mathlib.Core.Path.{◌≡◌, refl, sym, ◌∙◌}
use mathlib.Core.Bool.{Bool, true, false}
use mathlib.Core.List.{List}
use Prim.Native.Nat.{ℕ, ◌^◌, ◌≤◌}
use native.Mathlib.Omega.{arith}
use borrow.Author.Tests.{lt-ltb, le-ltb, le-leb}
use lib.ListN.{length, take}
use Rattle.storage.proofs.Bytes.{bytes_of_length}
use Rattle.text.specs.Writing.{put}
use Rattle.candump.specs.declared.Arrival.{Arrival}
use Rattle.std.specs.Prelude.{Result, Ok}
use Rattle.candump.specs.declared.refusal.Refusal.{Refusal}
use Rattle.candump.specs.Line.{written, shows, is_line, Good}
use Rattle.candump.specs.Calls.{line_read, line_refusal}
use Rattle.candump.proofs.Lines.{put_start}
use Rattle.candump.proofs.Exact.{again}
use Rattle.bench_records.specs.Records.{kind_of, record_of}
use Rattle.bench_records.specs.Turning.{frame_refusal, text_refusal, ToRecord, ToText}
use Rattle.bench_records.specs.Again.{RecordAgain, ThereAndBack}
use Rattle.bench_records.proofs.Records.{read_case, frame_of_lem, apart, arrival_again}

pub record_again : (a : Arrival) → RecordAgain a
record_again a good = arrival_again a good

-- a line that is read as a frame shows it
shown : (line : List ℕ) (a : Arrival) → line_read line ≡ Ok a → (is_line line ≡ true) × (shows line ≡ a)
shown line a r = by (is_line line) refl
  where
    by : (b : Bool) → is_line line ≡ b → (is_line line ≡ true) × (shows line ≡ a)
    by true e = (e, sym (frame_of_lem (sym r ∙ read_case line true e)))
    by false e = apart (sym r ∙ read_case line false e)

whole_frame : (log : List ℕ) → kind_of log ≡ 1 → length log ≡ 15 → frame_refusal log ≡ Ok tt
whole_frame log k l = rw (l, k)

module _ (a : Arrival) (good : Good a) where
  kind : kind_of (record_of a) ≡ 1
  unfolding record_of
  kind = refl

  long : length (record_of a) ≡ 15
  unfolding record_of
  long = omega (arith, bytes_of_length 8 a.bytes)

  is_frame_lem : frame_refusal (record_of a) ≡ Ok tt
  is_frame_lem = whole_frame (record_of a) kind long

  in_range_lem : (room : ℕ) → 51 ≤ room → line_refusal room a ≡ Ok tt
  unfolding line_refusal
  in_range_lem room h =
      rw (
        le-leb 1 a.port good.first,
        le-leb a.port 4 good.last,
        le-ltb room 51 h,
        lt-ltb a.id (2 ^ 29) good.narrow,
        le-ltb 8 a.len good.short,
      )

  turned : (room : ℕ) → 51 ≤ room → text_refusal room (record_of a) ≡ Ok tt
  unfolding text_refusal
  turned room h = rw (is_frame_lem, arrival_again a good, in_range_lem room h)

  -- the line that was written
  the_line : {lent back : List ℕ} {w : Result ℕ Refusal} → 51 ≤ length lent → ToText (record_of a) lent back w → (w ≡ Ok (length (written a))) × (take (length (written a)) back ≡ written a)
  the_line {lent} {back} {w} h t =
      let o = rw (turned (length lent) h, arrival_again a good) at t.outcome in
      (o.0, rw o.1 (put_start (written a) lent (length (written a)) (omega arith)))

  -- and the record of it
  the_record : {lent back : List ℕ} {r : Result Unit Refusal} → 15 ≤ length lent → ToRecord (written a) lent back r → (r ≡ Ok tt) × (take 15 back ≡ record_of a)
  the_record {lent} {back} {r} h t =
      let s = shown (written a) a (again a good) in
      let e = le-ltb (length lent) 15 h in
      let bytes : back ≡ put 0 (record_of a) lent = rw (e, s.0, s.1) at t.bytes in
      (rw (e, s.0) at t.answer, rw bytes (put_start (record_of a) lent 15 (omega (arith, long))))

pub there_and_back : (a : Arrival) → ThereAndBack a
there_and_back a lent back lent' back' w r good room space t =
    let line = the_line a good room t in
    rw line.0 (λ u. the_record a good space (rw line.1 at u))
