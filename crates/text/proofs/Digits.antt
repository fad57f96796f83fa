-- Digits, written and read back, are the same bytes. Assumes nothing.
use mathlib.Core.Path.{◌≡◌, refl, sym, ap, ◌∙◌}
use mathlib.Core.List.{List, [], ◌∷◌, ◌++◌}
use Prim.Native.Nat.{ℕ, zero, suc, ◌+◌, ◌*◌, ◌/◌, ◌%◌, ◌^◌, ◌≤◌, ◌<◌}
use native.Mathlib.Decide.{dec_lt}
use native.Mathlib.Nat.{pow-suc, div-div-eq-div-mul}
use native.Mathlib.Omega.{arith}
use borrow.Author.Tests.{lt-ltb, le-ltb, le-leb, lt-leb}
use lib.ListN.{length, get_or, take, length-append}
use lib.Seq.{take-suc, length-take-le}
use native.Mathlib.Numerals.{add-one}
use Rattle.storage.specs.Bytes.{packed, bytes_of}
use Rattle.storage.proofs.Bytes.{AllBytes, bytes_of_length, bytes_back}
use Rattle.text.specs.Writing.{Writing}
use Rattle.text.proofs.Writing.{writing_join}
use Rattle.std.specs.Int.{w64, byte_at, bytes_low_first, to_le_bytes}
use Rattle.std.proofs.lemmas.Bool.Decides.{nat_tests}
use Rattle.text.specs.Digits.{hex_digit, hex_value, value_or_0, hex_of, hex_bytes, pair_at, from_four, decimal_in, decimal_of}

-- ---- hex
pub value_of_digit : (d : ℕ) → d < 16 → value_or_0 (hex_digit d) ≡ d
unfolding hex_digit hex_value
value_of_digit d h =
    elim (dec_lt d 10) [
      | yes k ↦ rw (lt-ltb d 10 k, le-leb 48 (48 + d) (omega arith), le-leb (48 + d) 57 (omega arith)) (omega arith)
      | no n ↦ rw (
        le-ltb d 10 (omega arith),
        lt-leb (55 + d) 57 (omega arith),
        le-leb 48 (55 + d) (omega arith),
        le-leb 65 (55 + d) (omega arith),
        le-leb (55 + d) 70 (omega arith),
      )
          (omega arith)
    ]

value_small : (c : ℕ) → value_or_0 c < 16
unfolding hex_value
value_small c = grind (arith, nat_tests)

-- the higher half of a byte is below 16
pub high_digit : {b : ℕ} → b < 256 → b / 16 % 16 ≡ b / 16
high_digit h = omega arith

-- a byte's two digits
pub byte_of_pair : (b : ℕ) → b < 256 → 16 * value_or_0 (hex_digit (b / 16)) + value_or_0 (hex_digit (b % 16)) ≡ b
byte_of_pair b h = rw (value_of_digit (b / 16) (omega arith), value_of_digit (b % 16) (omega arith)) (omega arith)

pub hex_long : (bs : List ℕ) → length (hex_of bs) ≡ 2 * length bs
unfolding hex_of
hex_long [] = refl
hex_long (b ∷ bs) = omega (arith, hex_long bs)

pub hex_append : (bs cs : List ℕ) → hex_of (bs ++ cs) ≡ hex_of bs ++ hex_of cs
unfolding hex_of
hex_append [] cs = refl
hex_append (b ∷ bs) cs = ap (λ l. hex_digit (b / 16) ∷ hex_digit (b % 16) ∷ l) (hex_append bs cs)

-- digits of bytes stand for these bytes
pub hex_back : (bs : List ℕ) → AllBytes bs → hex_bytes (hex_of bs) ≡ bs
unfolding hex_of hex_bytes
hex_back [] h = refl
hex_back (b ∷ bs) h = rw (byte_of_pair b (h zero), hex_back bs (λ i. h (suc i)))

-- the bytes that digits stand for, by their places
twice : (i : ℕ) → 2 * suc i ≡ suc (suc (2 * i))
twice i = omega arith

pub hex_bytes_long : (cs : List ℕ) → length (hex_bytes cs) ≡ length cs / 2
unfolding hex_bytes
hex_bytes_long [] = refl
hex_bytes_long (c ∷ []) = refl
hex_bytes_long (c ∷ d ∷ cs) = omega (arith, hex_bytes_long cs)

pub hex_bytes_at : (cs : List ℕ) (i : ℕ) → 2 * i + 2 ≤ length cs → get_or (hex_bytes cs) i 0 ≡ pair_at cs (2 * i)
unfolding hex_bytes
hex_bytes_at [] i h = absurd (omega arith)
hex_bytes_at (c ∷ []) i h = absurd (omega arith)
hex_bytes_at (c ∷ d ∷ cs) zero h = refl
hex_bytes_at (c ∷ d ∷ cs) (suc i) h = rw (twice i, add-one (suc (suc (2 * i)))) (hex_bytes_at cs i (omega arith) ∙ rw (add-one (2 * i)))

pub pair_small : (cs : List ℕ) (at : ℕ) → pair_at cs at < 256
pair_small cs at = omega (arith, value_small (get_or cs at 0), value_small (get_or cs (at + 1) 0))

pub hex_bytes_small : (cs : List ℕ) → AllBytes (hex_bytes cs)
unfolding hex_bytes
hex_bytes_small [] i = omega arith
hex_bytes_small (c ∷ []) i = omega arith
hex_bytes_small (c ∷ d ∷ cs) zero = omega (arith, value_small c, value_small d)
hex_bytes_small (c ∷ d ∷ cs) (suc i) = hex_bytes_small cs i

-- a number of 32 bits, byte by byte
sum_of_four : (a b c d : ℕ) → from_four a b c d ≡ d + 256 * (c + 256 * (b + 256 * (a + 256 * 0)))
sum_of_four a b c d = omega arith

pub four_back : (n : ℕ) → n < 2 ^ 32 → from_four (n / 16777216 % 256) (n / 65536 % 256) (n / 256 % 256) (n % 256) ≡ n
unfolding packed bytes_of
four_back n h =
    let b : n / 256 / 256 ≡ n / 65536 = div-div-eq-div-mul n 256 256 in
    let a : n / 65536 / 256 ≡ n / 16777216 = div-div-eq-div-mul n 65536 256 in
    rw (← a, ← b) (sum_of_four (n / 256 / 256 / 256 % 256) (n / 256 / 256 % 256) (n / 256 % 256) (n % 256) ∙ bytes_back 4 n h)

-- ---- decimal
-- a number that k digits hold has the same digits where one more is allowed
decimal_more : (k n : ℕ) → n < 10 ^ suc k → decimal_in (suc (suc k)) n ≡ decimal_in (suc k) n
unfolding decimal_in
decimal_more zero n h = rw (lt-ltb n 10 (omega arith))
decimal_more (suc k) n h =
    elim (dec_lt n 10) [
      | yes l ↦ rw (lt-ltb n 10 l)
      | no m ↦ rw (le-ltb n 10 (omega arith)) (ap (λ l. l ++ ((48 + n % 10) ∷ [])) (decimal_more k (n / 10) (omega (arith, pow-suc 10 (suc k)))))
    ]

-- a number below 10 ^ k has at most k digits
decimal_short : (j k n : ℕ) → n < 10 ^ suc k → length (decimal_in j n) ≤ suc k
unfolding decimal_in
decimal_short zero k n h = omega arith
decimal_short (suc j) zero n h = rw (lt-ltb n 10 (omega arith)) (omega arith)
decimal_short (suc j) (suc k) n h =
    elim (dec_lt n 10) [
      | yes l ↦ rw (lt-ltb n 10 l) (omega arith)
      | no m ↦
          let short = decimal_short j k (n / 10) (omega (arith, pow-suc 10 (suc k))) in
          rw (le-ltb n 10 (omega arith), length-append (decimal_in j (n / 10)) ((48 + n % 10) ∷ [])) (omega arith)
    ]

last : (k n : ℕ) → 10 ≤ n → decimal_in (suc k) n ≡ decimal_in k (n / 10) ++ ((48 + n % 10) ∷ [])
unfolding decimal_in
last k n h = rw (le-ltb n 10 h)

-- the digits of a number of 32 bits: those of a tenth of it, and one more
pub decimal_step : (n : ℕ) → 10 ≤ n → n < 2 ^ 32 → decimal_of n ≡ decimal_of (n / 10) ++ ((48 + n % 10) ∷ [])
decimal_step n h l = last 9 n h ∙ ap (λ x. x ++ ((48 + n % 10) ∷ [])) (sym (decimal_more 8 (n / 10) (omega arith)))

pub decimal_one : (n : ℕ) → n < 10 → decimal_of n ≡ (48 + n) ∷ []
unfolding decimal_in
decimal_one n h = rw (lt-ltb n 10 h)

pub decimal_long : (n : ℕ) → n < 2 ^ 32 → length (decimal_of n) ≤ 10
decimal_long n h = decimal_short 10 9 n (omega arith)

-- a tenth of it has one less
pub decimal_nine : (n : ℕ) → n < 2 ^ 32 → length (decimal_of (n / 10)) ≤ 9
decimal_nine n h = decimal_short 10 8 (n / 10) (omega arith)

-- ---- bytes
-- one more byte's digits
pub hex_more : {a b c : List ℕ} {at m n : ℕ} (i : ℕ) (bs : List ℕ) → Writing a b at (hex_of (take i bs)) m → Writing b c m (hex_of (get_or bs i 0 ∷ [])) n
    → i < length bs → at + 2 * i ≤ length a → Writing a c at (hex_of (take (i + 1) bs)) n
hex_more i bs v w h fits =
    rw (add-one i, take-suc bs i 0 h, hex_append (take i bs) (get_or bs i 0 ∷ []))
    (writing_join v w (omega (arith, hex_long (take i bs), length-take-le i bs (omega arith))))

-- byte i of a number, as the library has it, and what is above it
above : (i n : ℕ) → n / 256 ^ i / 256 ≡ n / 256 ^ suc i
above i n = div-div-eq-div-mul n (256 ^ i) 256 ∙ rw (pow-suc 256 i)

byte_is : (i n : ℕ) → byte_at i n ≡ n / 256 ^ i % 256
byte_is zero n = omega arith
byte_is (suc i) n = refl

low_first : (i k n : ℕ) → bytes_low_first i k n ≡ bytes_of k (n / 256 ^ i)
unfolding bytes_of
low_first i zero n = refl
low_first i (suc k) n = rw (byte_is i n, above i n, low_first (suc i) k n)

-- the bytes of a word, as the library has them
pub word_bytes : (word : ℕ) → to_le_bytes w64 word ≡ bytes_of 8 word
word_bytes word = let e : word / 256 ^ 0 ≡ word = omega arith in rw e at (low_first 0 8 word)

-- the digits of the first bytes of a word
pub hex_take_long : (len bytes : ℕ) → len ≤ 8 → length (hex_of (take len (bytes_of 8 bytes))) ≡ 2 * len
hex_take_long len bytes h =
    let l : length (take len (bytes_of 8 bytes)) ≡ len = length-take-le len (bytes_of 8 bytes) (omega (arith, bytes_of_length 8 bytes)) in
    omega (arith, hex_long (take len (bytes_of 8 bytes)), l)
