-- A line is read exactly if a frame is written so, and what is written is read again. Assumes nothing.
use mathlib.Core.Path.{◌≡◌, refl, sym, ap, ◌∙◌}
use mathlib.Core.Bool.{Bool, true, false, ◌||◌}
use mathlib.Core.List.{List, [], ◌∷◌, ◌++◌}
use Prim.Native.Nat.{ℕ, zero, suc, ◌+◌, ◌-◌, ◌*◌, ◌/◌, ◌%◌, ◌^◌, ◌≤◌, ◌<◌}
use native.Mathlib.Nat.{not-suc-le-zero, le_of_suc-le-suc}
use native.Mathlib.Omega.{arith}
use borrow.Author.Tests.{eq-eqb, eqb-true}
use lib.Dec.{eqb, ltb}
use lib.ListN.{length, take, drop, length-take}
use lib.Seq.{take_at}
use Rattle.storage.specs.Bytes.{bytes_of}
use Rattle.storage.proofs.Bytes.{AllBytes, bytes_back, packed_small}
use Rattle.text.specs.Digits.{hex_of, hex_bytes}
use Rattle.text.proofs.Digits.{hex_take_long, byte_of_pair, hex_back, hex_bytes_long, hex_bytes_small, four_back}
use Rattle.candump.specs.declared.Arrival.{Arrival}
use Rattle.candump.specs.declared.refusal.Refusal.{Refusal}
use Rattle.candump.specs.declared.refusal.Refusal.TheVariants.{NoFrame}
use Rattle.std.specs.Prelude.{Result, Ok, Err}
use Rattle.candump.specs.Line.{stamp, body, written, fits, alike, is_frame, id_in, data_in, len_in, arrival_in, shows, is_line, Good}
use Rattle.candump.specs.Calls.{line_read}
use Rattle.candump.specs.Exact.{IsWritten, Exact, Again}
use Rattle.candump.proofs.Lines.{and_left, and_right, tail_long, frame_parts, parts_frame, read_frame, read_refused}

-- ---- texts that are alike
or_false : (b : Bool) → (b || false) ≡ true → b ≡ true
or_false true h = refl
or_false false h = h

alike_same : (cs ds : List ℕ) → alike 0 cs ds ≡ true → cs ≡ ds
unfolding alike
alike_same [] [] h = refl
alike_same [] (d ∷ ds) h = absurd (cc)
alike_same (c ∷ cs) [] h = absurd (cc)
alike_same (c ∷ cs) (d ∷ ds) h =
    let here : c ≡ d = eqb-true c d (or_false (eqb c d) (and_left (eqb c d || false) _ h)) in
    let there : cs ≡ ds = alike_same cs ds (and_right (eqb c d || false) _ h) in
    rw (here, there)

less : (n : ℕ) → suc n - 1 ≡ n
less n = omega arith

-- behind the time they are the same
pub alike_rest : (s t cs : List ℕ) → alike (length s) cs (s ++ t) ≡ true → drop (length s) cs ≡ t
unfolding alike
alike_rest [] t cs h = alike_same cs t h
alike_rest (x ∷ s) t [] h = absurd (cc)
alike_rest (x ∷ s) t (c ∷ cs) h = alike_rest s t cs (rw (less (length s)) at (and_right (fits (ltb 0 (suc (length s))) c x) _ h))

pub alike_self : (k : ℕ) (cs : List ℕ) → alike k cs cs ≡ true
unfolding alike
alike_self k [] = refl
alike_self k (c ∷ cs) = rw (eq-eqb c c refl) (alike_self (k - 1) cs)

-- ---- a frame's parts, read off its line
pub take_bytes : (n m w : ℕ) → n ≤ m → take n (bytes_of m w) ≡ bytes_of n w
unfolding bytes_of
take_bytes zero m w h = refl
take_bytes (suc n) zero w h = absurd (not-suc-le-zero h)
take_bytes (suc n) (suc m) w h = ap (λ l. (w % 256) ∷ l) (take_bytes n m (w / 256) (le_of_suc-le-suc h))

bytes_small : (n w : ℕ) → AllBytes (bytes_of n w)
unfolding bytes_of
bytes_small zero w i = omega arith
bytes_small (suc n) w zero = omega arith
bytes_small (suc n) w (suc i) = bytes_small n (w / 256) i

module _ (a : Arrival) (good : Good a) where
  id_shown : id_in (body a) ≡ a.id
  unfolding id_in hex_of
  id_shown =
      let n = a.id in
      rw (
        byte_of_pair (n / 16777216 % 256) (omega arith),
        byte_of_pair (n / 65536 % 256) (omega arith),
        byte_of_pair (n / 256 % 256) (omega arith),
        byte_of_pair (n % 256) (omega arith),
      )
      (four_back n (omega (arith, good.narrow)))

  len_shown : len_in (body a) ≡ a.len
  len_shown = omega (arith, tail_long a.id a.len a.bytes good.short)

  data_shown : data_in (body a) a.len ≡ a.bytes
  unfolding data_in hex_of
  data_shown =
      let len = a.len in
      rw (
        take_at (hex_of (take len (bytes_of 8 a.bytes))) (10 ∷ []) (2 * len) (hex_take_long len a.bytes good.short),
        take_bytes len 8 a.bytes good.short,
        hex_back (bytes_of len a.bytes) (bytes_small len a.bytes),
      )
      (bytes_back len a.bytes good.filled)

  pub shown : arrival_in (body a) ≡ a
  unfolding arrival_in
  shown = let port : 48 + a.port - 48 ≡ a.port = omega arith in rw (port, id_shown, len_shown, data_shown)

-- ---- the theorems
written_shown : (line : List ℕ) (a : Arrival) → IsWritten line a → a ≡ shows line
unfolding written
written_shown line a w = sym (ap arrival_in (alike_rest stamp (body a) line w.1) ∙ shown a w.0)

read_written : (line : List ℕ) (a : Arrival) → IsWritten line a → line_read line ≡ Ok a
read_written line a w =
    let g = w.0 in
    sym (read_frame line (written_shown line a w) (parts_frame a g.first g.last g.narrow g.short) w.1)

-- the bytes past the length are 0
filled : (rest : List ℕ) → data_in rest (len_in rest) < 256 ^ len_in rest
unfolding data_in
filled rest =
    let cs = take (2 * len_in rest) (drop 15 rest) in
    packed_small (len_in rest) (hex_bytes cs) (omega (arith, hex_bytes_long cs, length-take (2 * len_in rest) (drop 15 rest))) (hex_bytes_small cs)

shown_written : (line : List ℕ) → is_line line ≡ true → IsWritten line (shows line)
unfolding is_line arrival_in
shown_written line e =
    let p = frame_parts (shows line) (and_left _ _ e) in (
      record { first = p.first; last = p.last; narrow = p.narrow; short = p.short; filled = filled (drop 19 line) },
      and_right (is_frame (shows line)) _ e,
    )

read_shown : (line : List ℕ) → is_line line ≡ true → line_read line ≡ Ok (shows line)
unfolding line_read
read_shown line e = rw e

no_two : {r : Result Arrival Refusal} {a : Arrival} {e : Refusal} → r ≡ Ok a → r ≡ Err e → ⊥
no_two p q = cc

same_frame : {r : Result Arrival Refusal} {a b : Arrival} → r ≡ Ok a → r ≡ Ok b → a ≡ b
same_frame p q = cc

-- whether or not the line is a frame's
frame_case : (line : List ℕ) (b : Bool) → is_line line ≡ b → (a : Arrival) → line_read line ≡ Ok a → IsWritten line a
frame_case line true e a h = rw (same_frame h (read_shown line e)) (shown_written line e)
frame_case line false e a h = absurd (no_two h (sym (read_refused line e)))

refused_case : (line : List ℕ) (b : Bool) → is_line line ≡ b → ((a : Arrival) → IsWritten line a → ⊥) → line_read line ≡ Err NoFrame
refused_case line true e n = absurd (n (shows line) (shown_written line e))
refused_case line false e n = sym (read_refused line e)

pub exact : (line : List ℕ) → Exact line
exact line = record {
  frame = λ a. (frame_case line (is_line line) refl a, read_written line a);
  refused = (λ h a w. no_two (read_written line a w) h, refused_case line (is_line line) refl);
}

-- "Frames written as candump text and read again are the same frames."
pub again : (a : Arrival) → Again a
again a g = read_written (written a) a (g, alike_self 19 (written a))
