-- Packets as words: each word has the bytes of its packet, so that a message cut and put together is the same; the steps of `packet`. Assumes nothing.
use Prim.Native.Nat.{ℕ, zero, suc, ◌+◌, ◌-◌, ◌*◌, ◌^◌, ◌≤◌, ◌<◌, min}
use mathlib.Core.Path.{◌≡◌, refl, sym, ap, ◌∙◌}
use mathlib.Core.List.{List, [], ◌∷◌, ◌++◌, append-nil, append_assoc}
use native.Mathlib.Nat.{not-suc-le-zero, le_of_suc-le-suc}
use native.Mathlib.Decide.{dec_lt}
use native.Mathlib.Omega.{arith}
use lib.ListN.{length, get_or, take, drop, replicate, length-drop, length-append, length-replicate, length-take}
use lib.Seq.{take_all, drop-drop, drop_at, take-append-le, get_or-drop}
use Rattle.storage.specs.Bytes.{packed, bytes_of}
use Rattle.storage.proofs.Bytes.{AllBytes, packed_back, bytes_back, bytes_of_length}
use Rattle.packets.specs.Packets.{packets_of, packet, packets_from, carried}
use Rattle.packets.specs.Words.{words_from, cut_words, carried_in, together_in, CutWords, Cutting}
use Rattle.packets.proofs.Same.{same_from}
use Rattle.packets.proofs.Frames.{word_of}
use Rattle.std.specs.Int.{w64, from_le_bytes}

-- ---- bytes stay bytes
drop_bytes : (n : ℕ) (m : List ℕ) → AllBytes m → AllBytes (drop n m)
drop_bytes n m h i = rw (get_or-drop n m i 0) (h (n + i))

filled_bytes : (j : ℕ) → AllBytes (replicate j 0xFF)
filled_bytes zero i = omega arith
filled_bytes (suc j) zero = omega arith
filled_bytes (suc j) (suc i) = filled_bytes j i

front_bytes : (n : ℕ) (m fill : List ℕ) → AllBytes m → AllBytes fill → AllBytes (take n m ++ fill)
front_bytes zero m fill h f i = f i
front_bytes (suc n) [] fill h f i = f i
front_bytes (suc n) (x ∷ m) fill h f zero = h zero
front_bytes (suc n) (x ∷ m) fill h f (suc i) = front_bytes n m fill (λ j. h (suc j)) f i

-- ---- the word of a packet, read as bytes, is the packet
packet_bytes : (k : ℕ) (m : List ℕ) → k < 256 → AllBytes m → AllBytes (packet k m)
packet_bytes k m small h zero = small
packet_bytes k m small h (suc i) = front_bytes 7 m (replicate (7 - length (take 7 m)) 0xFF) h (filled_bytes (7 - length (take 7 m))) i

packet_long : (k : ℕ) (m : List ℕ) → length (packet k m) ≡ 8
packet_long k m =
    let few : length (take 7 m) ≤ 7 = rw (length-take 7 m) (omega arith) in
    ap {A = ℕ} suc (length-append (take 7 m) (replicate (7 - length (take 7 m)) 0xFF) ∙ rw (length-replicate {A = ℕ} (7 - length (take 7 m)) 0xFF) (omega arith))

pub packet_back : (k : ℕ) (m : List ℕ) → k < 256 → AllBytes m → bytes_of 8 (packed (packet k m)) ≡ packet k m
packet_back k m small h =
    packed_back 8 (packet k m) (omega (arith, packet_long k m)) (packet_bytes k m small h)
    ∙ ap {A = ℕ} (λ n. packet k m ++ replicate (8 - n) 0) (packet_long k m)
    ∙ append-nil (packet k m)

pub carried_words : (n k : ℕ) (m : List ℕ) → k + n ≤ 256 → AllBytes m → carried_in (words_from n k m) ≡ carried (packets_from n k m)
unfolding words_from carried_in packets_from carried
carried_words zero k m few h = refl
carried_words (suc n) k m few h =
    rw (packet_back k m (omega arith) h, carried_words n (suc k) (drop 7 m) (omega arith) (drop_bytes 7 m h))

-- a message cut into words and put together is the same message, one of less than 9 bytes too
pub words_same : (m : List ℕ) → length m ≤ 1785 → AllBytes m → together_in (length m) (cut_words m) ≡ m
words_same m few h =
    ap {A = List ℕ} (λ l. take (length m) l) (carried_words (packets_of (length m)) 1 m (omega arith) h)
    ∙ same_from (packets_of (length m)) 1 m (omega arith)

pub words_many : (n k : ℕ) (m : List ℕ) → length (words_from n k m) ≡ n
unfolding words_from
words_many zero k m = refl
words_many (suc n) k m = ap {A = ℕ} suc (words_many n (suc k) (drop 7 m))

pub cut_words_lem : (m : List ℕ) → CutWords m
cut_words_lem m = record {
  same = λ h least few. words_same m few h;
  many = words_many (packets_of (length m)) 1 m;
}

-- word i of them
pub words_at : (n k : ℕ) (m : List ℕ) (i : ℕ) → i < n → get_or (words_from n k m) i 0 ≡ packed (packet (k + i) (drop (7 * i) m))
unfolding words_from
words_at zero k m i h = absurd (not-suc-le-zero h)
words_at (suc n) k m zero h = let e : k ≡ k + 0 = omega arith in ap {A = ℕ} (λ j. packed (packet j m)) e
words_at (suc n) k m (suc i) h =
    let e : 7 + 7 * i ≡ 7 * suc i = omega arith in
    let f : suc k + i ≡ k + suc i = omega arith in
    words_at n (suc k) (drop 7 m) i (le_of_suc-le-suc h) ∙ rw (drop-drop (7 * i) 7 m, e, f)

-- the bytes of word k that words carry
seven : (w : ℕ) → length (drop 1 (bytes_of 8 w)) ≡ 7
seven w = length-drop 1 (bytes_of 8 w) ∙ rw (bytes_of_length 8 w)

pub carried_part : (ws : List ℕ) (k j : ℕ) → k < length ws → j ≤ 7 → take j (drop (7 * k) (carried_in ws)) ≡ take j (drop 1 (bytes_of 8 (get_or ws k 0)))
unfolding carried_in
carried_part [] k j h l = absurd (omega arith)
carried_part (w ∷ ws) zero j h l = take-append-le j (drop 1 (bytes_of 8 w)) (carried_in ws) (omega (arith, seven w))
carried_part (w ∷ ws) (suc k) j h l =
    let e : 7 * suc k ≡ 7 + 7 * k = omega arith in
    let all = drop 1 (bytes_of 8 w) ++ carried_in ws in
    ap {A = ℕ} (λ n. take j (drop n all)) e
    ∙ ap {A = List ℕ} (λ xs. take j xs) (sym (drop-drop (7 * k) 7 all))
    ∙ ap {A = List ℕ} (λ xs. take j (drop (7 * k) xs)) (drop_at (drop 1 (bytes_of 8 w)) (carried_in ws) 7 (seven w))
    ∙ carried_part ws k j (omega arith) l

pub carried_long : (ws : List ℕ) → length (carried_in ws) ≡ 7 * length ws
unfolding carried_in
carried_long [] = refl
carried_long (w ∷ ws) = length-append (drop 1 (bytes_of 8 w)) (carried_in ws) ∙ omega (arith, seven w, carried_long ws)

pub carried_append : (xs ys : List ℕ) → carried_in (xs ++ ys) ≡ carried_in xs ++ carried_in ys
unfolding carried_in
carried_append [] ys = refl
carried_append (x ∷ xs) ys = rw (carried_append xs ys, append_assoc (drop 1 (bytes_of 8 x)) (carried_in xs) (carried_in ys))

-- ---- the contract of `packet`
front : (left : List ℕ) (n : ℕ) → n ≡ min (length left) 7 → take n left ≡ take 7 left
front left n e =
    elim (dec_lt (length left) 7) [
      | yes h ↦ take_all n left (omega arith) ∙ sym (take_all 7 left (omega arith))
      | no h ↦ let seven : n ≡ 7 = omega arith in rw seven
    ]

filling : (n k : ℕ) → drop {A = ℕ} n (replicate k 0xFF) ≡ replicate (k - n) 0xFF
filling zero k = let e : k - 0 ≡ k = omega arith in rw e
filling (suc n) zero = let e : 0 - suc n ≡ 0 = omega arith in rw e
filling (suc n) (suc k) = let e : suc k - suc n ≡ k - n = omega arith in filling n k ∙ rw e

-- the bytes that are copied, between the number and the filling
pub packet_made : (left part : List ℕ) (k n : ℕ) → n ≡ min (length left) 7 → part ≡ take n left
    → k ∷ (part ++ drop {A = ℕ} (1 + length (take n left) - 1) (replicate 7 0xFF)) ≡ packet k left
packet_made left part k n e p =
    let d : 1 + length (take n left) - 1 ≡ length (take n left) = omega arith in
    rw (d, filling (length (take n left)) 7, p, front left n e)

pub cutting : (left : List ℕ) (k : ℕ) {bytes : List ℕ} {r : ℕ} → k < 256 → AllBytes left → r < 2 ^ 64 → bytes ≡ packet k left → r ≡ from_le_bytes w64 bytes → Cutting left k r
cutting left k {bytes} {r} small all fits b e =
    let frame : bytes_of 8 r ≡ packet k left = word_of (packet k left) (packet_long k left) (packet_bytes k left small all) (rw b at e) in
    record { word = sym (bytes_back 8 r fits) ∙ ap packed frame; frame = frame }
