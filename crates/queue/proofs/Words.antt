-- The words of a block and the frames that they hold: a read of two words is a read of a frame, a store of two a store of a frame, by induction on the place.
-- Assumes nothing.
use Rattle.std.proofs.Common.{◌≡◌, ℕ, zero, suc, ◌+◌, ◌*◌, ◌/◌, ◌%◌, ◌<◌, List, [], ◌∷◌, length, get_or, drop, set, refl, ap, ◌∙◌, le_of_suc-le-suc, not-suc-le-zero, arith, length-drop, get_or-drop}
use lib.Seq.{drop-set-add, take-set-le}
use Rattle.queue.specs.declared.Frame.{Frame}
use Rattle.queue.specs.Queue.{size, head_length, block_length, head, frame, frames_in, frames_of}
use Rattle.queue.specs.Steps.{blank}

-- twice i, by i's structure, so that a list computes at it
abbrev twice : ℕ → ℕ
twice zero = zero
twice (suc i) = suc (suc (twice i))

twice_is : (i : ℕ) → 2 * i ≡ twice i
twice_is zero = refl
twice_is (suc i) = omega (arith, twice_is i)

get_in : (ws : List ℕ) (i : ℕ) → suc (twice i) < length ws → frame (get_or ws (twice i) 0) (get_or ws (suc (twice i)) 0) ≡ get_or (frames_in ws) i blank
unfolding frames_in
get_in [] i h = absurd (not-suc-le-zero h)
get_in (x ∷ []) i h = absurd (not-suc-le-zero (le_of_suc-le-suc h))
get_in (x ∷ y ∷ ws) zero h = refl
get_in (x ∷ y ∷ ws) (suc i) h = get_in ws i (le_of_suc-le-suc (le_of_suc-le-suc h))

put_in : (ws : List ℕ) (i head bytes : ℕ) → frames_in (set (set ws (twice i) head) (suc (twice i)) bytes) ≡ set (frames_in ws) i (frame head bytes)
unfolding frames_in
put_in [] i head bytes = refl
put_in (x ∷ []) zero head bytes = refl
put_in (x ∷ []) (suc i) head bytes = refl
put_in (x ∷ y ∷ ws) zero head bytes = refl
put_in (x ∷ y ∷ ws) (suc i) head bytes = ap {B = List Frame} (λ l. frame x y ∷ l) (put_in ws i head bytes)

length_in : (ws : List ℕ) (k : ℕ) → length ws ≡ 2 * k → length (frames_in ws) ≡ k
unfolding frames_in
length_in [] k h = omega arith
length_in (x ∷ []) k h = absurd (omega arith)
length_in (x ∷ y ∷ ws) zero h = absurd (omega arith)
length_in (x ∷ y ∷ ws) (suc k) h = ap suc (length_in ws k (omega arith))

-- ---- the same of a block, as the code has it
pub frames_length : (block : List ℕ) → length block ≡ block_length → length (frames_of block) ≡ size
unfolding frames_of
frames_length block h = length_in (drop head_length block) size (simp length-drop (omega arith))

-- the two words of frame i
first_word : (i : ℕ) → 2 * i + 11 ≡ 11 + twice i
first_word i = omega (arith, twice_is i)

second_word : (i : ℕ) → 2 * i + 11 + 1 ≡ 11 + suc (twice i)
second_word i = omega (arith, twice_is i)

pub frames_get : (block : List ℕ) (i : ℕ) → 2 * i + 11 + 1 < length block
    → frame (get_or block (2 * i + 11) 0) (get_or block (2 * i + 11 + 1) 0) ≡ get_or (frames_of block) i blank
unfolding frames_of
frames_get block i h =
    rw (second_word i, first_word i, ← (get_or-drop 11 block (suc (twice i)) 0), ← (get_or-drop 11 block (twice i) 0))
    (get_in (drop 11 block) i (simp length-drop (omega (arith, twice_is i))))

pub frames_put : (block : List ℕ) (i : ℕ) (f : Frame) → f.id < 4294967296
    → frames_of (set (set block (2 * i + 11) (f.id + f.len * 4294967296)) (2 * i + 11 + 1) f.bytes) ≡ set (frames_of block) i f
unfolding frames_of
frames_put block i f h =
    let word = f.id + f.len * 4294967296 in
    let id : (f.id + f.len * 4294967296) % 4294967296 ≡ f.id = omega arith in
    let len : (f.id + f.len * 4294967296) / 4294967296 ≡ f.len = omega arith in
    rw (second_word i, first_word i, drop-set-add 11 (set block (11 + twice i) word) (suc (twice i)) f.bytes, drop-set-add 11 block (twice i) word)
    (put_in (drop 11 block) i word f.bytes ∙ rw (id, len))

-- a frame that is stored leaves the words before the frames
pub head_put : (block : List ℕ) (i word bytes : ℕ) → head (set (set block (2 * i + 11) word) (2 * i + 11 + 1) bytes) ≡ head block
head_put block i word bytes = take-set-le 11 (set block (2 * i + 11) word) (2 * i + 11 + 1) bytes (omega arith) ∙ take-set-le 11 block (2 * i + 11) word (omega arith)
