-- Bytes, packed and read back, are the same bytes, and a number read as bytes and packed is the same number. Assumes nothing.
use mathlib.Core.Path.{◌≡◌, refl, sym, ap, ◌∙◌}
use mathlib.Core.List.{List, [], ◌∷◌, ◌++◌}
use Prim.Native.Nat.{ℕ, zero, suc, ◌+◌, ◌-◌, ◌*◌, ◌/◌, ◌%◌, ◌^◌, ◌≤◌, ◌<◌, zero-le}
use native.Mathlib.Nat.{not-suc-le-zero, le_of_suc-le-suc, pow-suc, sub-zero, suc-sub-suc, div-div-eq-div-mul, div-one, mul_assoc, mul_comm, mul-le-mul_left, mul-suc, one-mul, pow-le-pow_right}
use native.Mathlib.Omega.{arith}
use lib.Pow.{pow-add}
use lib.ListN.{length, get_or, take, drop, replicate, length-drop, take-append-drop, drop_of_length-le}
use lib.Seq.{take_at, take_all, take-add, drop-cons, drop-drop, length-take-le}
use Rattle.std.specs.Int.{w16, w32, w64, from_le_bytes}
use Rattle.storage.specs.Bytes.{packed, bytes_of, Packing}

-- every element is a byte
abbrev pub AllBytes : List ℕ → Type 0
AllBytes bs = (i : ℕ) → get_or bs i 0 < 256

pub bytes_of_length : (n w : ℕ) → length (bytes_of n w) ≡ n
unfolding bytes_of
bytes_of_length zero w = refl
bytes_of_length (suc n) w = ap suc (bytes_of_length n (w / 256))

-- at most k bytes make a number below 256 ^ k
pub packed_small : (k : ℕ) (bs : List ℕ) → length bs ≤ k → AllBytes bs → packed bs < 256 ^ k
unfolding packed
packed_small zero [] l h = omega arith
packed_small (suc k) [] l h = omega (arith, pow-suc 256 k, packed_small k [] zero-le h)
packed_small zero (b ∷ bs) l h = absurd (not-suc-le-zero l)
packed_small (suc k) (b ∷ bs) l h = omega (arith, pow-suc 256 k, h zero, packed_small k bs (le_of_suc-le-suc l) (λ i. h (suc i)))

zeros : (n : ℕ) → bytes_of n 0 ≡ replicate n 0
unfolding bytes_of
zeros zero = refl
zeros (suc n) = ap {B = List ℕ} (λ l. 0 ∷ l) (zeros n)

-- bytes, packed and read back, are the same bytes, filled with 0
pub packed_back : (n : ℕ) (bs : List ℕ) → length bs ≤ n → AllBytes bs → bytes_of n (packed bs) ≡ bs ++ replicate (n - length bs) 0
unfolding packed bytes_of
packed_back n [] l h = zeros n ∙ rw (sub-zero n)
packed_back zero (b ∷ bs) l h = absurd (not-suc-le-zero l)
packed_back (suc n) (b ∷ bs) l h =
    let e : packed (b ∷ bs) % 256 ≡ b = omega (arith, h zero) in
    let d : packed (b ∷ bs) / 256 ≡ packed bs = omega (arith, h zero) in
    rw (e, d, packed_back n bs (le_of_suc-le-suc l) (λ i. h (suc i)), suc-sub-suc n (length bs))

-- the bytes alone, without the filling
pub packed_same : (n : ℕ) (bs : List ℕ) → length bs ≤ n → AllBytes bs → take (length bs) (bytes_of n (packed bs)) ≡ bs
packed_same n bs l h = rw (packed_back n bs l h) (take_at bs (replicate (n - length bs) 0) (length bs) refl)

-- a number below 256 ^ n, read as n bytes and packed, is the same number
pub bytes_back : (n w : ℕ) → w < 256 ^ n → packed (bytes_of n w) ≡ w
unfolding packed bytes_of
bytes_back zero w h = omega arith
bytes_back (suc n) w h = let e = bytes_back n (w / 256) (omega (arith, pow-suc 256 n)) in omega (arith, e)

-- byte i
pub byte_of : (n w i : ℕ) → i < n → get_or (bytes_of n w) i 0 ≡ w / 256 ^ i % 256
unfolding bytes_of
byte_of zero w i h = absurd (not-suc-le-zero h)
byte_of (suc n) w zero h = rw (div-one w)
byte_of (suc n) w (suc i) h = byte_of n (w / 256) i (le_of_suc-le-suc h) ∙ rw (div-div-eq-div-mul w 256 (256 ^ i), mul_comm 256 (256 ^ i), ← (pow-suc 256 i))

-- two runs of bytes, one after the other
pub packed_append : (xs ys : List ℕ) → packed (xs ++ ys) ≡ packed xs + 256 ^ length xs * packed ys
unfolding packed
packed_append [] ys = rw (one-mul (packed ys)) (omega arith)
packed_append (x ∷ xs) ys =
    let e : 256 ^ suc (length xs) * packed ys ≡ 256 * (256 ^ length xs * packed ys) = rw (pow-suc 256 (length xs), mul_comm (256 ^ length xs) 256, mul_assoc 256 (256 ^ length xs) (packed ys)) in
    rw (packed_append xs ys, e) (omega arith)

-- one byte is its own number
pub packing_one : (bytes : List ℕ) (at : ℕ) → at < length bytes → AllBytes bytes → Packing 1 bytes at (get_or bytes at 0)
unfolding packed
packing_one bytes at fits h = record { number = rw (drop-cons bytes at 0 fits) (omega arith); small = omega (arith, h at) }

-- m bytes and the n after them make one number
pub packing_join : (m n : ℕ) (bytes : List ℕ) (at low high : ℕ) → at + (m + n) ≤ length bytes → Packing m bytes at low → Packing n bytes (at + m) high → Packing (m + n) bytes at (low + 256 ^ m * high)
packing_join m n bytes at low high fits L H = record {
  number = rw (L.number, H.number, take-add m n (drop at bytes), drop-drop m at bytes, packed_append (take m (drop at bytes)) (take n (drop (at + m) bytes)), long);
  small = omega (arith, mul-le-mul_left {m = suc high} {n = 256 ^ n} (256 ^ m) H.small, mul-suc (256 ^ m) high, pow-add 256 m n, L.small);
}
  where
    long : length (take m (drop at bytes)) ≡ m
    long = length-take-le m (drop at bytes) (simp length-drop (omega arith))

-- n bytes that are the last are more than n too
pub packing_last : {m : ℕ} (n : ℕ) {bytes : List ℕ} {at r : ℕ} → m ≤ n → length bytes ≤ at + m → Packing m bytes at r → Packing n bytes at r
packing_last {m} n {bytes} {at} h l P = record {
  number = P.number ∙ rw (take_all m (drop at bytes) (simp length-drop (omega arith)), take_all n (drop at bytes) (simp length-drop (omega arith)));
  small = omega (arith, P.small, pow-le-pow_right {n = 256} (omega arith) {i = m} {j = n} h);
}

pub packing_none : (bytes : List ℕ) (at : ℕ) → Packing 0 bytes at 0
unfolding packed
packing_none bytes at = record { number = refl; small = omega arith }

-- one byte more, in front
pub packed_step : (bytes : List ℕ) (i : ℕ) → i < length bytes → packed (drop i bytes) ≡ get_or bytes i 0 + 256 * packed (drop (suc i) bytes)
unfolding packed
packed_step bytes i h = rw (drop-cons bytes i 0 h)

-- past the last byte there is nothing more
pub packed_none : (bytes : List ℕ) (i : ℕ) → length bytes ≤ i → packed (drop i bytes) ≡ 0
unfolding packed
packed_none bytes i h = rw (drop_of_length-le bytes {i = i} h)

-- ---- the library's words of two, four and eight bytes
pub word_of_two : (bytes : List ℕ) → length bytes ≡ 2 → from_le_bytes w16 bytes ≡ packed bytes
word_of_two bytes l = omega (arith, packed_step bytes 0 (omega arith), packed_step bytes 1 (omega arith), packed_none bytes 2 (omega arith))

pub word_of_four : (bytes : List ℕ) → length bytes ≡ 4 → from_le_bytes w32 bytes ≡ packed bytes
word_of_four bytes l =
    omega (
      arith,
      packed_step bytes 0 (omega arith),
      packed_step bytes 1 (omega arith),
      packed_step bytes 2 (omega arith),
      packed_step bytes 3 (omega arith),
      packed_none bytes 4 (omega arith),
    )

pub word_of_eight : (bytes : List ℕ) → length bytes ≡ 8 → from_le_bytes w64 bytes ≡ packed bytes
word_of_eight bytes l =
    omega (
      arith,
      packed_step bytes 0 (omega arith),
      packed_step bytes 1 (omega arith),
      packed_step bytes 2 (omega arith),
      packed_step bytes 3 (omega arith),
      packed_step bytes 4 (omega arith),
      packed_step bytes 5 (omega arith),
      packed_step bytes 6 (omega arith),
      packed_step bytes 7 (omega arith),
      packed_none bytes 8 (omega arith),
    )

-- four bytes and those behind them
pub packed_from_four : (bytes : List ℕ) → 4 ≤ length bytes → packed bytes ≡ packed (take 4 bytes) + 4294967296 * packed (drop 4 bytes)
packed_from_four bytes some = ap packed (sym (take-append-drop 4 bytes)) ∙ packed_append (take 4 bytes) (drop 4 bytes) ∙ rw (length-take-le 4 bytes some)

-- past the last byte there is nothing
pub past : (n w i : ℕ) → n ≤ i → get_or (bytes_of n w) i 0 ≡ 0
unfolding bytes_of
past zero w i h = refl
past (suc n) w zero h = absurd (not-suc-le-zero h)
past (suc n) w (suc i) h = past n (w / 256) i (le_of_suc-le-suc h)

-- the same byte by a shift
pub byte_shift : (n w i : ℕ) → i < n → w / 2 ^ (8 * i) % 256 ≡ get_or (bytes_of n w) i 0
byte_shift n w i h = rw (byte_of n w i h, power i)
  where
    power : (i : ℕ) → 2 ^ (8 * i) ≡ 256 ^ i
    power zero = refl
    power (suc i) = rw (mul-suc 8 i, pow-add 2 (8 * i) 8, power i, pow-suc 256 i)
