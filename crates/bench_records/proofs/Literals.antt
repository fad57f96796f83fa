-- The literals: the examples by computing, with room for what is written. Assumes nothing.
use mathlib.Core.Path.{◌≡◌, refl}
use mathlib.Core.Bool.{Bool, true, false, not, cond, ◌&&◌}
use mathlib.Core.List.{List, [], ◌∷◌}
use Prim.Native.Nat.{ℕ, ◌+◌, ◌*◌, ◌≤◌}
use borrow.Author.Tests.{le-ltb}
use lib.Dec.{ltb, leb}
use lib.ListN.{length, take}
use Rattle.storage.specs.Bytes.{packed, bytes_of}
use Rattle.text.specs.Digits.{hex_digit, hex_value, hex_of, hex_bytes}
use Rattle.text.specs.Writing.{put}
use Rattle.std.specs.Prelude.{Result, Ok, Err}
use Rattle.candump.specs.declared.refusal.Refusal.{Refusal}
use Rattle.candump.specs.declared.refusal.Refusal.TheVariants.{NoPort, LongFrame, UnknownKind, CutShort}
use Rattle.candump.specs.Refusals.{number, number_in}
use Rattle.candump.specs.Calls.{line_refusal}
use Rattle.candump.specs.Line.{written, alike, is_frame, id_in, data_in, arrival_in, is_line}
use Rattle.candump.specs.Literals.{line_from, two_bytes}
use Rattle.candump.proofs.Lines.{put_start}
use Rattle.candump.proofs.Literals as candump
use Rattle.bench_records.specs.Records.{word_of, arrival_of, record_of}
use Rattle.bench_records.specs.Turning.{text_refusal, ToRecord, ToText}
use Rattle.bench_records.specs.Literals.{record_from, NoText, NoRecord, Literals}

-- ---- refused
no_text : (log : List ℕ) (e : Refusal) → ((room : ℕ) → 51 ≤ room → text_refusal room log ≡ Err e) → NoText log (number e)
no_text log e f before after r h t = let o = rw (f (length before) h) at t.outcome in (rw o.0, o.1)

no_record : (line : List ℕ) → is_line line ≡ false → NoRecord line
no_record line f before after r h t = (rw (rw (le-ltb (length before) 15 h, f) at t.answer), rw (le-ltb (length before) 15 h, f) at t.bytes)

-- ---- turned
a_line : (log : List ℕ) → ((room : ℕ) → 51 ≤ room → text_refusal room log ≡ Ok tt) → written (arrival_of log) ≡ line_from 49 two_bytes
    → (before after : List ℕ) (r : Result ℕ Refusal) → 51 ≤ length before → ToText log before after r → (r ≡ Ok 39) × (take 39 after ≡ line_from 49 two_bytes)
a_line log e l before after r h t =
    let o = rw (e (length before) h, l) at t.outcome in
    (o.0, rw o.1 (put_start (line_from 49 two_bytes) before 39 refl))

is_example : is_line (line_from 49 two_bytes) ≡ true
unfolding is_line is_frame alike arrival_in id_in data_in written hex_of hex_digit hex_bytes hex_value packed bytes_of
is_example = refl

of_example : (before after : List ℕ) (r : Result Unit Refusal) → 15 ≤ length before → ToRecord (line_from 49 two_bytes) before after r
    → (r ≡ Ok tt) × (take 15 after ≡ record_from 1 2 (1 ∷ 2 ∷ 0 ∷ 0 ∷ 0 ∷ 0 ∷ 0 ∷ 0 ∷ []))
unfolding record_of arrival_in id_in data_in hex_bytes hex_value packed bytes_of
of_example before after r h t =
    let e = le-ltb (length before) 15 h in
    let bytes : after ≡ put 0 (record_from 1 2 (1 ∷ 2 ∷ 0 ∷ 0 ∷ 0 ∷ 0 ∷ 0 ∷ 0 ∷ [])) before = rw (e, is_example) at t.bytes in
    (rw (e, is_example) at t.answer, rw bytes (put_start (record_from 1 2 (1 ∷ 2 ∷ 0 ∷ 0 ∷ 0 ∷ 0 ∷ 0 ∷ 0 ∷ [])) before 15 refl))

-- ---- numbers
numbered : (room port a b c d len b0 b1 b2 b3 b4 b5 b6 b7 : ℕ)
    → number_in (text_refusal room (1 ∷ port ∷ a ∷ b ∷ c ∷ d ∷ len ∷ b0 ∷ b1 ∷ b2 ∷ b3 ∷ b4 ∷ b5 ∷ b6 ∷ b7 ∷ []))
    ≡ cond (leb 1 port && leb port 4) (cond (ltb room 51) 2 (cond (leb 536870912 (16777216 * a + 65536 * b + 256 * c + d)) 3 (cond (leb 9 len) 4 0))) 1
unfolding text_refusal arrival_of
numbered room port a b c d len b0 b1 b2 b3 b4 b5 b6 b7 = (candump.literals).numbers room _

-- the refusal of a record with room for its line
with_room : (port len b0 b1 b2 b3 b4 b5 b6 b7 room : ℕ) → 51 ≤ room
    → text_refusal room (record_from port len (b0 ∷ b1 ∷ b2 ∷ b3 ∷ b4 ∷ b5 ∷ b6 ∷ b7 ∷ [])) ≡ cond (leb 1 port && leb port 4) (cond (ltb 8 len) (Err LongFrame) (Ok tt)) (Err NoPort)
unfolding text_refusal arrival_of line_refusal
with_room port len b0 b1 b2 b3 b4 b5 b6 b7 room h = rw (le-ltb room 51 h) (turned (leb 1 port && leb port 4) _ _)
  where
    turned : (b : Bool) (x y : Result Unit Refusal) → cond (not b) x y ≡ cond b y x
    turned true x y = refl
    turned false x y = refl

pub literals : Literals
unfolding text_refusal arrival_of word_of is_line is_frame alike arrival_in id_in data_in written hex_of hex_digit hex_bytes hex_value packed bytes_of
literals = record {
  to_record = of_example;
  to_text = a_line _ (with_room 1 2 1 2 0 0 0 0 0 0) refl;
  not_read = a_line _ (with_room 1 2 1 2 3 4 5 6 7 8) refl;
  numbers = numbered;
  port0 = no_text _ NoPort (with_room 0 2 1 2 3 4 5 6 7 8);
  port5 = no_text _ NoPort (with_room 5 2 1 2 3 4 5 6 7 8);
  port9 = no_text _ NoPort (with_room 9 2 1 2 3 4 5 6 7 8);
  nine = no_text _ LongFrame (with_room 1 9 1 2 3 4 5 6 7 8);
  both = no_text _ NoPort (with_room 5 9 1 2 3 4 5 6 7 8);
  taken = no_text _ UnknownKind (λ room h. refl);
  cut = no_text _ CutShort (λ room h. refl);
  line0 = no_record _ refl;
  line5 = no_record _ refl;
  line9 = no_record _ refl;
  line_of_nine = no_record _ refl;
  line_of_both = no_record _ refl;
}
