-- A step's contract, case by case. Assumes nothing.
use mathlib.Core.Path.{◌≡◌, refl, sym, ap, ◌∙◌}
use mathlib.Core.Bool.{Bool, true, false}
use mathlib.Core.List.{List, ◌∷◌}
use Prim.Native.Nat.{ℕ, zero, suc, ◌+◌, ◌-◌, ◌≤◌, ◌<◌}
use native.Mathlib.Nat.{sub-zero, not-suc-le-zero, le_of_suc-le-suc}
use native.Mathlib.Omega.{arith}
use borrow.Author.Tests.{lt-ltb, le-ltb, eq-eqb, ne_eqb}
use lib.ListN.{length, take, drop, get_or, replicate, length-append}
use Rattle.text.specs.Writing.{put, Writing}
use Rattle.unit.specs.Count.{ports_of}
use Rattle.unit.specs.Model.{model_of}
use Rattle.bridge.specs.Told.{FrameTold, TakeTold}
use Rattle.bridge.specs.Calls.{FrameIn, TakeOut, Framing, TakingOut}
use Rattle.bench_records.specs.Records.{kind_of, size_of, log_number, id_of}
use Rattle.bench_lines.specs.Lines.{line_room, refused_text}
use Rattle.bench_log.specs.declared.Stepped.{Stepped}
use Rattle.bench_log.specs.Log.{bytes_in, call_of}
use Rattle.bench_log.specs.Step.{frame_text, take_text, call_text, Doing, Cutting, outcome, on_log, Stepping}
use Rattle.bench_records.proofs.Numbers.{size_least, record_whole, number_frame, number_take}

-- a call's line
pub frame_done_lem : {w v lent back bytes : List ℕ} {port id n : ℕ} {r : FrameTold} → Framing (ports_of w) w v port id bytes r → Writing lent back 0 (frame_text r) n
    → Doing (ports_of w) w v (FrameIn port id bytes) lent back n
unfolding call_text
frame_done_lem f l = record { call = f.call; line = rw f.answer at l }

pub take_done : {w v lent back : List ℕ} {port n : ℕ} {r : TakeTold} → TakingOut (ports_of w) w v port r → Writing lent back 0 (take_text r) n → Doing (ports_of w) w v (TakeOut port) lent back n
unfolding call_text
take_done f l = record { call = f.call; line = rw f.answer at l }

-- what was written had room
written_near : (t lent : List ℕ) → length (put 0 t lent) ≡ length lent → length t ≤ length lent
written_near t lent e = omega (arith, e, length-append t (drop (0 + length t) lent))

inside : (w log lent : List ℕ) (last : Bool) → line_room ≤ length lent
    → outcome (ports_of w) (length lent) (length w) (model_of (ports_of w) w) log last ≡ on_log (ports_of w) (length w) (model_of (ports_of w) w) log last
unfolding outcome
inside w log lent last room = rw (le-ltb (length lent) line_room room)

module _ {w log lent : List ℕ} {last : Bool} where
  pub no_room : length lent < line_room → Stepping (ports_of w) w w log last lent lent (record { used = 0; written = 0; over = false })
  unfolding outcome
  no_room h =
      let e = lt-ltb (length lent) line_room h in
      record { long = refl; count = refl; state = rw e; text = rw e; used = rw e; written = rw e; over = rw e; kept = λ z. refl; refused = λ z. refl; fits = omega arith; near = omega arith }

  module _ (room : line_room ≤ length lent) where
    pub at_end : length log ≡ 0 → Stepping (ports_of w) w w log last lent lent (record { used = 0; written = 0; over = last })
    at_end h =
        let e = eq-eqb (length log) 0 h in
        record {
          long = refl;
          count = refl;
          state = rw (inside w log lent last room, e);
          text = rw (inside w log lent last room, e);
          used = rw (inside w log lent last room, e);
          written = rw (inside w log lent last room, e);
          over = rw (inside w log lent last room, e);
          kept = λ z. refl;
          refused = λ z. refl;
          fits = omega arith;
          near = omega arith;
        }

    module _ (some : length log ≡ 0 → ⊥) where
      pub at_unknown : {back : List ℕ} {n : ℕ} → log_number log ≡ 24 → Writing lent back 0 (refused_text 24) n → length back ≡ length lent
          → Stepping (ports_of w) w w log last lent back (record { used = 0; written = n; over = true })
      at_unknown {back} {n} e l b =
          record {
            long = refl;
            count = refl;
            state = rw (inside w log lent last room, ne_eqb (length log) 0 some, e);
            text = rw (inside w log lent last room, ne_eqb (length log) 0 some, e) l.bytes;
            used = rw (inside w log lent last room, ne_eqb (length log) 0 some, e);
            written = rw (inside w log lent last room, ne_eqb (length log) 0 some, e) (l.next ∙ omega arith);
            over = rw (inside w log lent last room, ne_eqb (length log) 0 some, e);
            kept = λ z. refl;
            refused = λ z. refl;
            fits = omega arith;
            near = omega (arith, l.next, written_near (refused_text 24) lent (sym (ap length l.bytes) ∙ b));
          }

      pub at_cut : {back : List ℕ} {r : Stepped} → log_number log ≡ 25 → Cutting last lent back r → length back ≡ length lent → Stepping (ports_of w) w w log last lent back r
      at_cut {back} {r} e l b = cutting last refl
        where
          cutting : (c : Bool) → last ≡ c → Stepping (ports_of w) w w log last lent back r
          cutting true f =
              let text : back ≡ put 0 (refused_text 25) lent = rw f at l.text in
              let written : r.written ≡ length (refused_text 25) = rw f at l.written in
              record {
                long = refl;
                count = refl;
                state = rw (inside w log lent last room, ne_eqb (length log) 0 some, e, f);
                text = rw (inside w log lent last room, ne_eqb (length log) 0 some, e, f) text;
                used = rw (inside w log lent last room, ne_eqb (length log) 0 some, e, f) l.used;
                written = rw (inside w log lent last room, ne_eqb (length log) 0 some, e, f) written;
                over = rw (inside w log lent last room, ne_eqb (length log) 0 some, e, f) (rw f at l.over);
                kept = λ z. refl;
                refused = λ z. refl;
                fits = omega (arith, l.used);
                near = omega (arith, written, written_near (refused_text 25) lent (sym (ap length text) ∙ b));
              }
          cutting false f =
              let written : r.written ≡ 0 = rw f at l.written in
              record {
                long = refl;
                count = refl;
                state = rw (inside w log lent last room, ne_eqb (length log) 0 some, e, f);
                text = rw (inside w log lent last room, ne_eqb (length log) 0 some, e, f) (rw f at l.text);
                used = rw (inside w log lent last room, ne_eqb (length log) 0 some, e, f) l.used;
                written = rw (inside w log lent last room, ne_eqb (length log) 0 some, e, f) written;
                over = rw (inside w log lent last room, ne_eqb (length log) 0 some, e, f) (rw f at l.over);
                kept = λ z. refl;
                refused = λ z. refl;
                fits = omega (arith, l.used);
                near = omega (arith, written);
              }

      at_record : {v back : List ℕ} {n : ℕ} → log_number log ≡ 0 → Doing (ports_of w) w v (call_of log) lent back n → length back ≡ length lent
          → Stepping (ports_of w) w v log last lent back (record { used = size_of (kind_of log); written = n; over = false })
      at_record {v} {back} {n} e l b =
          let text = call_text (ports_of w) (length w) (model_of (ports_of w) w) (call_of log) in
          record {
            long = l.call.long;
            count = l.call.count;
            state = rw (inside w log lent last room, ne_eqb (length log) 0 some, e) l.call.state;
            text = rw (inside w log lent last room, ne_eqb (length log) 0 some, e) l.line.bytes;
            used = rw (inside w log lent last room, ne_eqb (length log) 0 some, e);
            written = rw (inside w log lent last room, ne_eqb (length log) 0 some, e) (l.line.next ∙ omega arith);
            over = rw (inside w log lent last room, ne_eqb (length log) 0 some, e);
            kept = λ z. absurd (omega (arith, z, size_least (kind_of log)));
            refused = λ n. l.call.refused n;
            fits = record_whole log (eq-eqb (log_number log) 0 e);
            near = omega (arith, l.line.next, written_near text lent (sym (ap length l.line.bytes) ∙ b));
          }

      pub at_frame : {v back : List ℕ} {n : ℕ} → kind_of log ≡ 1 → 15 ≤ length log → Doing (ports_of w) w v (FrameIn (get_or log 1 0) (id_of log) (bytes_in log)) lent back n
          → length back ≡ length lent → Stepping (ports_of w) w v log last lent back (record { used = 15; written = n; over = false })
      unfolding call_of
      at_frame {v} {back} {n} k h l b =
          let whole : Doing (ports_of w) w v (call_of log) lent back n = rw k l in
          rw k at (at_record (number_frame log k h) whole b)

      pub at_take : {v back : List ℕ} {n port : ℕ} → kind_of log ≡ 2 → 2 ≤ length log → port ≡ get_or log 1 0 → Doing (ports_of w) w v (TakeOut port) lent back n
          → length back ≡ length lent → Stepping (ports_of w) w v log last lent back (record { used = 2; written = n; over = false })
      unfolding call_of
      at_take {v} {back} {n} {port} k h p l b =
          let whole : Doing (ports_of w) w v (call_of log) lent back n = rw (k, ← p) l in
          rw k at (at_record (number_take log k h) whole b)

-- a log that ends in the middle of a record
pub cut_last : {lent back : List ℕ} {last : Bool} {n : ℕ} → last ≡ true → Writing lent back 0 (refused_text 25) n
    → Cutting last lent back (record { used = 0; written = n; over = true })
cut_last e l = record { text = rw e l.bytes; used = refl; written = rw e (l.next ∙ omega arith); over = sym e }

pub cut_more : {lent : List ℕ} {last : Bool} → last ≡ false → Cutting last lent lent (record { used = 0; written = 0; over = false })
cut_more e = record { text = rw e; used = refl; written = rw e; over = sym e }

-- ---- the bytes of a frame's call
pub long_bytes : (log : List ℕ) (len : ℕ) → len ≡ get_or log 6 0 → 8 < len → replicate len 0 ≡ bytes_in log
long_bytes log len e h = rw (← e, lt-ltb 8 len h)

pub short_bytes : (log : List ℕ) (len : ℕ) → len ≡ get_or log 6 0 → len ≤ 8 → take (7 + len - 7) (drop 7 log) ≡ bytes_in log
short_bytes log len e h = let z : 7 + len - 7 ≡ len = omega arith in rw (z, ← e, le-ltb 8 len h)

front : (n m : ℕ) → n ≤ m → take n (replicate {A = ℕ} m 0) ≡ replicate n 0
front zero m h = refl
front (suc n) zero h = absurd (not-suc-le-zero h)
front (suc n) (suc m) h = ap (λ l. 0 ∷ l) (front n m (le_of_suc-le-suc h))

pub zeros : (n m : ℕ) → n ≤ m → take (n - 0) (drop 0 (replicate {A = ℕ} m 0)) ≡ replicate n 0
zeros n m h = ap (λ k. take k (replicate {A = ℕ} m 0)) (sub-zero n) ∙ front n m h
