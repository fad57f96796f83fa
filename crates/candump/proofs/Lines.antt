-- The parts of a line: what is written, what is compared, what is read. Assumes nothing.
use mathlib.Core.Path.{◌≡◌, refl, sym, ap, ◌∙◌}
use mathlib.Core.Bool.{Bool, true, false, cond, not, ◌&&◌}
use mathlib.Core.List.{List, [], ◌∷◌}
use Prim.Native.Nat.{ℕ, suc, ◌+◌, ◌-◌, ◌*◌, ◌^◌, ◌≤◌, ◌<◌}
use native.Mathlib.Decide.{dec_lt}
use native.Mathlib.Numerals.{add-one}
use native.Mathlib.Omega.{arith}
use borrow.Author.Tests.{lt-ltb, le-ltb, le-leb, lt-leb, ltb-true, ltb-false, leb-true}
use lib.Dec.{ltb, leb}
use lib.ListN.{length, get_or, take, drop, length-append, length-drop, drop_of_length-le}
use lib.Seq.{take_at, take_all, drop-cons, length-take-le, get_or-take, get_or-drop}
use Rattle.storage.specs.Bytes.{packed, bytes_of}
use Rattle.storage.proofs.Bytes.{packed_small, packed_step}
use Rattle.text.specs.Writing.{put, Writing}
use Rattle.text.specs.Digits.{hex_of, hex_bytes, pair_at}
use Rattle.text.proofs.Digits.{hex_take_long, hex_bytes_long, hex_bytes_at, hex_bytes_small}
use Rattle.candump.specs.declared.Arrival.{Arrival}
use Rattle.candump.specs.Line.{tail, written, fits, alike, is_frame, len_in, arrival_in, shows, is_line}
use Rattle.candump.specs.declared.refusal.Refusal.{Refusal}
use Rattle.candump.specs.declared.refusal.Refusal.TheVariants.{NoPort, NoRoom, WideIdentifier, LongFrame, NoFrame}
use Rattle.std.specs.Prelude.{Result, Ok, Err}
use Rattle.candump.specs.Calls.{line_read, line_refusal, WritingLine}

-- ---- tests
pub and_false : (b : Bool) → (b && false) ≡ false
and_false true = refl
and_false false = refl

pub and_left : (a b : Bool) → (a && b) ≡ true → a ≡ true
and_left true b h = refl
and_left false b h = h

pub and_right : (a b : Bool) → (a && b) ≡ true → b ≡ true
and_right true b h = h
and_right false true h = refl
and_right false false h = h

not_false : (b : Bool) → not b ≡ false → b ≡ true
not_false true h = refl
not_false false h = sym h

-- a check that did not apply
passed : (b : Bool) (e : Refusal) (x : Result Unit Refusal) → cond b (Err e) x ≡ Ok tt → (b ≡ false) × (x ≡ Ok tt)
passed true e x h = absurd (cc)
passed false e x h = (refl, h)

-- ---- what is written
pub tail_long : (id len bytes : ℕ) → len ≤ 8 → length (tail id len bytes) ≡ 10 + 2 * len
unfolding hex_of
tail_long id len bytes h = omega (arith, length-append (hex_of (take len (bytes_of 8 bytes))) (10 ∷ []), hex_take_long len bytes h)

pub written_long : (a : Arrival) → a.len ≤ 8 → length (written a) ≡ 35 + 2 * a.len
unfolding written
written_long a h = omega (arith, tail_long a.id a.len a.bytes h)

-- text at the start of a buffer, read back
pub put_start : (t lent : List ℕ) (n : ℕ) → n ≡ 0 + length t → take n (put 0 t lent) ≡ t
put_start t lent n e = take_at t (drop (0 + length t) lent) n (omega arith)

-- what was written there
pub put_whole : {lent back t : List ℕ} {n : ℕ} → Writing lent back 0 t n → take n back ≡ t
put_whole {lent} {back} {t} {n} w = rw w.bytes (put_start t lent n w.next)

-- ---- what is compared
-- texts of two lengths are not alike
pub other_length : (k : ℕ) (cs ds : List ℕ) → (length cs ≡ length ds → ⊥) → alike k cs ds ≡ false
unfolding alike
other_length k [] [] n = absurd (n refl)
other_length k [] (d ∷ ds) n = refl
other_length k (c ∷ cs) [] n = refl
other_length k (c ∷ cs) (d ∷ ds) n = rw (other_length (k - 1) cs ds (λ e. n (ap suc e))) (and_false (fits (ltb 0 k) c d))

left : (i k : ℕ) → ltb 0 (k - i) ≡ ltb i k
left i k =
    elim (dec_lt i k) [
      | yes h ↦ lt-ltb 0 (k - i) (omega arith) ∙ sym (lt-ltb i k h)
      | no n ↦ le-ltb 0 (k - i) (omega arith) ∙ sym (le-ltb i k (omega arith))
    ]

-- one character, and the rest
pub alike_step : (k i : ℕ) (cs ds : List ℕ) → i < length cs → i < length ds
    → alike (k - i) (drop i cs) (drop i ds) ≡ (fits (ltb i k) (get_or cs i 0) (get_or ds i 0) && alike (k - (i + 1)) (drop (i + 1) cs) (drop (i + 1) ds))
unfolding alike
alike_step k i cs ds h l =
    let e : k - i - 1 ≡ k - (i + 1) = omega arith in
    rw (drop-cons cs i 0 h, drop-cons ds i 0 l, left i k, e, add-one i)

-- nothing is left
pub alike_end : (k i : ℕ) (cs ds : List ℕ) → length cs ≤ i → length ds ≤ i → alike (k - i) (drop i cs) (drop i ds) ≡ true
unfolding alike
alike_end k i cs ds h l = rw (drop_of_length-le cs {i = i} h, drop_of_length-le ds {i = i} l)

-- ---- what is read
-- the bytes that a line shows
abbrev shown : List ℕ → ℕ → List ℕ
shown rest len = hex_bytes (take (2 * len) (drop 15 rest))

module _ (rest : List ℕ) (len : ℕ) (fit : 15 + 2 * len ≤ length rest) where
  part_long : length (take (2 * len) (drop 15 rest)) ≡ 2 * len
  part_long = length-take-le (2 * len) (drop 15 rest) (omega (arith, length-drop 15 rest))

  shown_long : length (shown rest len) ≡ len
  shown_long = hex_bytes_long (take (2 * len) (drop 15 rest)) ∙ rw part_long (omega arith)

  shown_at : (i : ℕ) → i < len → get_or (shown rest len) i 0 ≡ pair_at rest (15 + 2 * i)
  shown_at i h =
      let e : 15 + (2 * i + 1) ≡ 15 + 2 * i + 1 = omega arith in
      hex_bytes_at (take (2 * len) (drop 15 rest)) i (omega (arith, part_long))
      ∙ rw (
        get_or-take (2 * len) (drop 15 rest) (2 * i) 0 (omega arith),
        get_or-take (2 * len) (drop 15 rest) (2 * i + 1) 0 (omega arith),
        get_or-drop 15 rest (2 * i) 0,
        get_or-drop 15 rest (2 * i + 1) 0,
        e,
      )

  pub data_start : 0 ≡ packed (drop len (shown rest len))
  unfolding packed
  data_start = rw (drop_of_length-le (shown rest len) {i = len} (omega (arith, shown_long)))

  pub data_step : (i : ℕ) → i < len → pair_at rest (15 + 2 * i) + 256 * packed (drop (i + 1) (shown rest len)) ≡ packed (drop i (shown rest len))
  data_step i h = sym (packed_step (shown rest len) i (omega (arith, shown_long)) ∙ rw (shown_at i h, add-one i))

  -- the bytes behind the first, of eight at most, leave room for one more
  pub data_small : (i : ℕ) → 0 < i → len ≤ 8 → packed (drop i (shown rest len)) < 256 ^ 7
  data_small i h l =
      packed_small 7 (drop i (shown rest len)) (omega (arith, length-drop i (shown rest len), shown_long))
      (λ k. rw (get_or-drop i (shown rest len) k 0) (hex_bytes_small (take (2 * len) (drop 15 rest)) (i + k)))

-- ---- lines of a wrong length
pub short_line : (line : List ℕ) → length line < 35 → is_line line ≡ false
unfolding is_line arrival_in
short_line line h =
    let none : len_in (drop 19 line) ≡ 0 = omega (arith, length-drop 19 line) in
    let long : length (written (shows line)) ≡ 35 = written_long (shows line) (omega arith) ∙ omega arith in
    rw (other_length 19 line (written (shows line)) (λ e. omega arith)) (and_false (is_frame (shows line)))

pub long_line : (line : List ℕ) → 52 < length line → is_line line ≡ false
unfolding is_line is_frame arrival_in
long_line line h =
    let many : leb (len_in (drop 19 line)) 8 ≡ false = lt-leb (len_in (drop 19 line)) 8 (omega (arith, length-drop 19 line)) in
    let a = shows line in
    rw (many, and_false (ltb a.id (2 ^ 29)), and_false (leb a.port 4), and_false (leb 1 a.port))

-- ---- the parts of a frame
pub record Parts (a : Arrival) : Type 0 where
  pub first : 1 ≤ a.port
  pub last : a.port ≤ 4
  pub narrow : a.id < 2 ^ 29
  pub short : a.len ≤ 8

pub frame_parts : (a : Arrival) → is_frame a ≡ true → Parts a
unfolding is_frame
frame_parts a h =
    let second = and_right (leb 1 a.port) _ h in
    let third = and_right (leb a.port 4) _ second in
    record {
      first = leb-true 1 a.port (and_left _ _ h);
      last = leb-true a.port 4 (and_left _ _ second);
      narrow = ltb-true a.id (2 ^ 29) (and_left _ _ third);
      short = leb-true a.len 8 (and_right (ltb a.id (2 ^ 29)) _ third);
    }

pub parts_frame : (a : Arrival) → 1 ≤ a.port → a.port ≤ 4 → a.id < 2 ^ 29 → a.len ≤ 8 → is_frame a ≡ true
unfolding is_frame
parts_frame a p q r s = rw (le-leb 1 a.port p, le-leb a.port 4 q, lt-ltb a.id (2 ^ 29) r, le-leb a.len 8 s)

-- ---- a line that is written
pub record Goes (room : ℕ) (a : Arrival) : Type 0 where
  pub fits : 51 ≤ room
  pub named : a.port ≤ 4
  pub short : a.len ≤ 8

pub goes : (room : ℕ) (a : Arrival) → line_refusal room a ≡ Ok tt → Goes room a
unfolding line_refusal
goes room a h =
    let one = passed (not (leb 1 a.port && leb a.port 4)) NoPort _ h in
    let two = passed (ltb room 51) NoRoom _ one.1 in
    let three = passed (not (ltb a.id (2 ^ 29))) WideIdentifier _ two.1 in
    let four = passed (ltb 8 a.len) LongFrame _ three.1 in
    record {
      fits = ltb-false room 51 two.0;
      named = leb-true a.port 4 (and_right (leb 1 a.port) _ (not_false _ one.0));
      short = ltb-false 8 a.len four.0;
    }

pub line_refused : {lent : List ℕ} {a : Arrival} {e : Refusal} → line_refusal (length lent) a ≡ Err e → WritingLine lent lent a (Err e)
line_refused h = record { outcome = rw h (refl, refl) }

pub line_written : {lent back : List ℕ} {a : Arrival} {r : ℕ} → line_refusal (length lent) a ≡ Ok tt → Writing lent back 0 (written a) r → WritingLine lent back a (Ok r)
line_written h w = record { outcome = rw h (ap Ok (w.next ∙ omega arith), w.bytes) }

-- ---- what a line is read as
-- what follows the time, as a part of the line
pub shows_part : (line : List ℕ) → arrival_in (take (length line - 19) (drop 19 line)) ≡ shows line
shows_part line = ap arrival_in (take_all (length line - 19) (drop 19 line) (omega (arith, length-drop 19 line)))

pub read_refused : (line : List ℕ) → is_line line ≡ false → Err NoFrame ≡ line_read line
unfolding line_read
read_refused line h = rw h

module _ (line : List ℕ) {a : Arrival} (e : a ≡ shows line) where
  pub read_frame : is_frame a ≡ true → alike 19 line (written a) ≡ true → Ok a ≡ line_read line
  unfolding line_read is_line
  read_frame h l = rw (rw e at h, rw e at l, e)

  pub not_written : alike 19 line (written a) ≡ false → is_line line ≡ false
  unfolding is_line
  not_written h = rw (rw e at h) (and_false (is_frame (shows line)))

  pub no_frame_lem : is_frame a ≡ false → is_line line ≡ false
  unfolding is_line
  no_frame_lem h = rw (rw e at h)
