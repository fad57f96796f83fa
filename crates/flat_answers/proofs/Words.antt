-- Words that are stored one after the other, and the bytes of a word that is cut. Assumes nothing.
use mathlib.Core.Path.{◌≡◌, refl, sym, ◌∙◌}
use mathlib.Core.List.{List, [], ◌∷◌, ◌++◌, append-nil}
use Prim.Native.Nat.{ℕ, zero, suc, ◌+◌, ◌-◌, ◌*◌, ◌/◌, ◌%◌, ◌^◌, ◌≤◌, ◌<◌, zero-le}
use native.Mathlib.Nat.{not-suc-le-zero, le_of_suc-le-suc, mul-suc, mod-one, suc-sub-suc, zero-add, one-mul, mod-eq_of_lt}
use native.Mathlib.Numerals.{add-one}
use native.Mathlib.Omega.{arith}
use lib.Pow.{field, mod-mod-pow, pow-lt}
use lib.ListN.{length, get_or, take, replicate, set, length-set}
use lib.Seq.{sets, sets-eq, drop-length, take_all, take-suc, take-suc-set}
use Rattle.storage.specs.Bytes.{packed, bytes_of}
use Rattle.storage.proofs.Bytes.{packed_back, bytes_of_length}
use Rattle.queue.specs.declared.Frame.{Frame}
use Rattle.flat_answers.specs.Answers.{bytes_length, bytes_of_frame}

-- the bytes of a word that is cut after l bytes
pub cut : (n l w : ℕ) → l ≤ n → bytes_of n (w % 2 ^ (8 * l)) ≡ take l (bytes_of n w) ++ replicate (n - l) 0
unfolding bytes_of packed
cut n zero w h = rw (mod-one w) (packed_back n [] zero-le (λ i. omega arith))
cut zero (suc l) w h = absurd (not-suc-le-zero h)
cut (suc n) (suc l) w h = rw (mul-suc 8 l, mod-mod-pow w (8 * l) 8, field w (8 * l) 8, cut n l (w / 256) (le_of_suc-le-suc h), suc-sub-suc n l)

-- the power of two that a shift makes
pub shifted : (l : ℕ) → l < 8 → 1 * 2 ^ (8 * l) % 2 ^ 64 ≡ 2 ^ (8 * l)
shifted l h = rw (one-mul (2 ^ (8 * l))) (mod-eq_of_lt (pow-lt {j = 64} (omega arith)))

-- a frame of at most eight bytes: its word is cut after its length
pub cut_frame : (f : Frame) → f.len < 8 → bytes_of bytes_length (f.bytes % 2 ^ (8 * f.len)) ≡ bytes_of_frame f
unfolding bytes_of_frame
cut_frame f h = cut 8 f.len f.bytes (omega arith)

-- nothing is cut where nothing stands past it
pub short_frame : (f : Frame) → f.len < 8 → f.bytes < 2 ^ (8 * f.len) → bytes_of bytes_length f.bytes ≡ bytes_of_frame f
short_frame f h small = rw (mod-eq_of_lt small) at (cut_frame f h)

-- a frame that says more has eight
pub whole_frame : (f : Frame) → 8 ≤ f.len → bytes_of bytes_length f.bytes ≡ bytes_of_frame f
unfolding bytes_of_frame
whole_frame f h =
    let z : 8 - f.len ≡ 0 = omega arith in
    rw (z, take_all f.len (bytes_of 8 f.bytes) (rw (bytes_of_length 8 f.bytes) h)) (sym (append-nil (bytes_of 8 f.bytes)))

-- ---- writing the bytes of a word: those before i are written
pub record Written (word : ℕ) (bytes : List ℕ) (i : ℕ) : Type 0 where
  pub within : i ≤ bytes_length
  pub long : length bytes ≡ bytes_length
  pub front : take i bytes ≡ take i (bytes_of bytes_length word)

pub written_start : {word : ℕ} {bytes : List ℕ} → length bytes ≡ bytes_length → Written word bytes 0
written_start e = record { within = omega arith; long = e; front = refl }

module _ {word i : ℕ} {bytes : List ℕ} where
  pub written_more : {b : ℕ} → i < bytes_length → b ≡ get_or (bytes_of bytes_length word) i 0 → Written word bytes i → Written word (set bytes i b) (i + 1)
  written_more {b} h e W =
      let more : i < length bytes = omega (arith, W.long) in
      let there : i < length (bytes_of bytes_length word) = rw (bytes_of_length bytes_length word) h in
      record {
        within = omega arith;
        long = simp length-set W.long;
        front = rw (add-one i, take-suc-set bytes i b, take-suc (bytes_of bytes_length word) i 0, W.front, e);
      }

  pub written_all : bytes_length ≤ i → Written word bytes i → bytes ≡ bytes_of bytes_length word
  written_all h W =
      let done : i ≡ bytes_length = omega (arith, W.within) in
      let e = rw done at W.front in
      sym (take_all bytes_length bytes (omega (arith, W.long))) ∙ e ∙ take_all bytes_length (bytes_of bytes_length word) (omega (arith, bytes_of_length bytes_length word))
