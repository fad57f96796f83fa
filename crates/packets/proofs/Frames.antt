-- The frames' words: their bytes as the library has them, and what is read from them. Assumes nothing.
use Rattle.std.proofs.Common.{◌≡◌, refl, sym, ◌∙◌, ℕ, zero, suc, ◌+◌, ◌*◌, ◌/◌, ◌%◌, ◌^◌, ◌<◌, List, [], ◌∷◌, length, eqb, arith}
use borrow.Author.Tests.{eq-eqb, ne_eqb}
use native.Mathlib.Nat.{div-div-eq-div-mul, pow-suc}
use Rattle.std.specs.Int.{w64, byte_at, bytes_low_first, to_le_bytes, from_le_bytes}
use Rattle.std.proofs.lemmas.Nat.{le_bytes_8}
use Rattle.storage.specs.Bytes.{bytes_of}
use Rattle.storage.proofs.Bytes.{AllBytes}
use Rattle.packets.specs.declared.Kind.TheVariants.{Other}
use Rattle.packets.specs.Frames.{is_about, by_first, kind_of}

-- ---- the bytes of a word, as the library has them
byte_is : (i n : ℕ) → byte_at i n ≡ n / 256 ^ i % 256
byte_is zero n = let e : n / 256 ^ 0 ≡ n = omega arith in rw e
byte_is (suc i) n = refl

above : (i n : ℕ) → n / 256 ^ i / 256 ≡ n / 256 ^ suc i
above i n = div-div-eq-div-mul n (256 ^ i) 256 ∙ rw (pow-suc 256 i)

low_first : (i k n : ℕ) → bytes_low_first i k n ≡ bytes_of k (n / 256 ^ i)
unfolding bytes_of
low_first i zero n = refl
low_first i (suc k) n = rw (byte_is i n, above i n, low_first (suc i) k n)

pub word_bytes : (word : ℕ) → to_le_bytes w64 word ≡ bytes_of 8 word
word_bytes word = let e : word / 256 ^ 0 ≡ word = omega arith in rw e at (low_first 0 8 word)

-- ---- eight bytes make a word, and are its bytes
abbrev pub Bytes : List ℕ → Type 0
Bytes [] = Unit {0}
Bytes (b ∷ bs) = (b < 256) × Bytes bs

all_bytes : (bs : List ℕ) → Bytes bs → AllBytes bs
all_bytes [] h i = omega arith
all_bytes (b ∷ bs) h zero = h.0
all_bytes (b ∷ bs) h (suc i) = all_bytes bs h.1 i

pub word_of : {r : ℕ} (bytes : List ℕ) → length bytes ≡ 8 → AllBytes bytes → r ≡ from_le_bytes w64 bytes → bytes_of 8 r ≡ bytes
word_of {r} bytes l all e = sym (word_bytes r) ∙ le_bytes_8 bytes r l all e

pub frame_is : {r : ℕ} (bytes : List ℕ) → length bytes ≡ 8 → Bytes bytes → r ≡ from_le_bytes w64 bytes → bytes_of 8 r ≡ bytes
frame_is bytes l all e = word_of bytes l (all_bytes bytes all) e

-- ---- what a frame that is heard says
about_is : (w : ℕ) → w < 2 ^ 64 → is_about (to_le_bytes w64 w) ≡ eqb (w / 2 ^ 40) 60672
about_is w h =
    let e : w / 256 ^ 5 % 256 + 256 * (w / 256 ^ 6 % 256) + 65536 * (w / 256 ^ 7 % 256) ≡ w / 2 ^ 40 = omega arith in
    rw e

module _ (w : ℕ) (bytes : List ℕ) (small : w < 2 ^ 64) (e : bytes ≡ to_le_bytes w64 w) where
  pub kind_about : w / 2 ^ 40 ≡ 60672 → kind_of (bytes_of 8 w) ≡ by_first bytes
  unfolding kind_of
  kind_about a = rw (← (word_bytes w), about_is w small, eq-eqb (w / 2 ^ 40) 60672 a, e)

pub kind_other : (w : ℕ) → w < 2 ^ 64 → (w / 2 ^ 40 ≡ 60672 → ⊥) → kind_of (bytes_of 8 w) ≡ Other
unfolding kind_of
kind_other w h n = rw (← (word_bytes w), about_is w h, ne_eqb (w / 2 ^ 40) 60672 n)
