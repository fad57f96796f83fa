-- The literals: the examples by computing, the rest from what a line is read as exactly. Assumes nothing.
use mathlib.Core.Path.{◌≡◌, refl, sym, ap, ◌∙◌}
use mathlib.Core.Bool.{Bool, true, false, not, cond, ◌&&◌}
use mathlib.Core.List.{List}
use Prim.Native.Nat.{ℕ, suc, ◌+◌, ◌-◌, ◌^◌, ◌≤◌, ◌<◌}
use native.Mathlib.Decide.{dec_lt}
use native.Mathlib.Omega.{arith}
use borrow.Author.Tests.{lt-ltb, le-ltb, le-leb, lt-leb}
use lib.Dec.{ltb, leb}
use lib.ListN.{get_or, drop}
use lib.Seq.{get_or-drop}
use Rattle.storage.specs.Bytes.{packed, bytes_of}
use Rattle.text.specs.Digits.{hex_digit, hex_value, hex_of, hex_bytes}
use Rattle.candump.specs.declared.Arrival.{Arrival}
use Rattle.candump.specs.declared.refusal.Refusal.TheVariants.{NoPort, NoRoom, WideIdentifier, LongFrame}
use Rattle.std.specs.Prelude.{Ok, Err}
use Rattle.candump.specs.Refusals.{number_in}
use Rattle.candump.specs.Line.{stamp, body, written, alike, is_frame, id_in, data_in, arrival_in, is_line}
use Rattle.candump.specs.Calls.{line_read, line_refusal}
use Rattle.candump.specs.Exact.{IsWritten}
use Rattle.candump.specs.Literals.{arrival, line_from, two_bytes, Literals}
use Rattle.candump.proofs.Exact.{alike_rest, exact, again}

-- ---- numbers
at_most : (n m : ℕ) → leb (suc n) m ≡ ltb n m
at_most n m =
    elim (dec_lt n m) [
      | yes h ↦ le-leb (suc n) m (omega arith) ∙ sym (lt-ltb n m h)
      | no k ↦ lt-leb (suc n) m (omega arith) ∙ sym (le-ltb n m (omega arith))
    ]

not_below : (n m : ℕ) → not (ltb n m) ≡ leb m n
not_below n m =
    elim (dec_lt n m) [
      | yes h ↦ ap not (lt-ltb n m h) ∙ sym (lt-leb m n h)
      | no k ↦ ap not (le-ltb n m (omega arith)) ∙ sym (le-leb m n (omega arith))
    ]

in_order : (room : ℕ) (a : Arrival)
    → number_in (line_refusal room a) ≡ cond (leb 1 a.port && leb a.port 4) (cond (ltb room 51) 2 (cond (leb 536870912 a.id) 3 (cond (leb 9 a.len) 4 0))) 1
unfolding line_refusal
in_order room a = rw (not_below a.id (2 ^ 29), ← at_most 8 a.len) (by (leb 1 a.port && leb a.port 4) (ltb room 51) (leb 536870912 a.id) (leb 9 a.len))
  where
    by : (p q r s : Bool) → number_in {T = Unit} (cond (not p) (Err NoPort) (cond q (Err NoRoom) (cond r (Err WideIdentifier) (cond s (Err LongFrame) (Ok tt))))) ≡ cond p (cond q 2 (cond r 3 (cond s 4 0))) 1
    by false q r s = refl
    by true true r s = refl
    by true false true s = refl
    by true false false true = refl
    by true false false false = refl

-- ---- what is read
of_frame : (line : List ℕ) (a : Arrival) → IsWritten line a
    → (49 ≤ get_or line 23 0) × (get_or line 23 0 ≤ 52) × (a.port ≡ get_or line 23 0 - 48) × (a.id < 536870912) × (a.len ≤ 8)
unfolding written
of_frame line a w =
    let rest : drop 19 line ≡ body a = alike_rest stamp (body a) line w.1 in
    let c : get_or line 23 0 ≡ 48 + a.port = sym (get_or-drop 19 line 4 0) ∙ ap (λ (l : List ℕ). get_or l 4 0) rest in
    (omega arith, omega arith, omega arith, w.0.narrow, w.0.short)

read_again : (port id len bytes : ℕ) → 1 ≤ port → port ≤ 4 → id < 536870912 → len ≤ 8 → bytes < 256 ^ len
    → line_read (written (arrival port id len bytes)) ≡ Ok (arrival port id len bytes)
read_again port id len bytes f l n s b = again (arrival port id len bytes) (record { first = f; last = l; narrow = n; short = s; filled = b })

-- the example with another port
shown : (port : ℕ) → written (arrival port 0x18FEF121 2 0x0201) ≡ line_from (48 + port) two_bytes
unfolding written hex_of hex_digit bytes_of
shown port = refl

pub literals : Literals
unfolding line_read is_line is_frame alike arrival_in id_in data_in written hex_of hex_digit hex_bytes hex_value packed bytes_of
literals = record {
  example = shown 1;
  can = λ port f l. sym (ap line_read (shown port)) ∙ read_again port 0x18FEF121 2 0x0201 f l (omega arith) (omega arith) (omega arith);
  port = λ line a r. of_frame line a (((exact line).frame a).0 r);
  again = read_again;
  numbers = in_order;
  port0 = refl;
  port5 = refl;
  port9 = refl;
  nine = refl;
  both = refl;
}
