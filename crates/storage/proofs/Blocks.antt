-- Blocks of a record: which block stands at an index, and what a block that was lent and came back does to its own region and to every other. Assumes nothing.
use mathlib.Core.Path.{◌≡◌, refl, sym, ap, ◌∙◌}
use mathlib.Core.Logic.{◌⊎◌, inl, inr, ⊎_elim}
use mathlib.Core.List.{List, [], ◌∷◌}
use Prim.Native.Nat.{ℕ, zero, suc, ◌+◌, ◌-◌, ◌*◌, ◌≤◌, ◌<◌}
use native.Mathlib.Nat.{not-suc-le-zero, le_of_suc-le-suc, mul-le-mul_left, mul-suc, zero-add, suc-add}
use native.Mathlib.Decide.{dec_lt, ℕ_discrete}
use native.Mathlib.Omega.{arith}
use lib.ListN.{length, get_or, set, take, drop, length-set, replicate}
use lib.Seq.{ext_get_or, get_or-set_same, get_or-set_other, take-take, drop-drop, take-nil}
use Rattle.storage.specs.Blocks.{block_at, blocks_of}
use Rattle.storage.proofs.Parts.{back, part_in, part_apart}

-- ---- reading: a region has `count` blocks, and at index i stands the meaning of block i
module _ {M : Type 0} (meaning : List ℕ → M) (size : ℕ) where
  pub length_blocks : (start count : ℕ) (words : List ℕ) → length (blocks_of start size count meaning words) ≡ count
  unfolding blocks_of
  length_blocks start zero words = refl
  length_blocks start (suc n) words = ap suc (length_blocks (start + size) n words)

  pub blocks_at : (start count : ℕ) (words : List ℕ) (i : ℕ) (d : M) → i < count → get_or (blocks_of start size count meaning words) i d ≡ meaning (block_at start size i words)
  unfolding blocks_of block_at
  blocks_at start zero words i d h = absurd (not-suc-le-zero h)
  blocks_at start (suc n) words zero d h =
      let e : start ≡ start + size * 0 = omega arith in
      ap (λ a. meaning (take size (drop a words))) e
  blocks_at start (suc n) words (suc i) d h =
      let e : start + size * suc i ≡ start + size + size * i = omega arith in
      blocks_at (start + size) n words i d (le_of_suc-le-suc h) ∙ rw e

-- ---- k words from a on were lent, and came back as ys
module _ (a k : ℕ) (words ys : List ℕ) (long : length ys ≡ k) (fits : a + k ≤ length words) where
  -- a block that does not overlap them is as it was
  pub block_apart : (start size i : ℕ) → (start + size * i + size ≤ a) ⊎ (a + k ≤ start + size * i) → block_at start size i (back a k words ys) ≡ block_at start size i words
  unfolding block_at
  block_apart start size i = part_apart a k words ys long fits (start + size * i) size

  -- so is a region
  pub blocks_apart : {M : Type 0} (meaning : List ℕ → M) (size start count : ℕ) → (start + size * count ≤ a) ⊎ (a + k ≤ start) → blocks_of start size count meaning (back a k words ys) ≡ blocks_of start size count meaning words
  unfolding blocks_of
  blocks_apart meaning size start zero h = refl
  blocks_apart meaning size start (suc n) h =
      rw (
        part_apart a k words ys long fits start size (⊎_elim (λ b. inl (omega (arith, mul-suc size n))) (λ b. inr (omega arith)) h),
        blocks_apart meaning size (start + size) n (⊎_elim (λ b. inl (omega (arith, mul-suc size n))) (λ b. inr (omega arith)) h),
      )

-- ---- block i of a region was lent, and came back as ys
apart : (size i j : ℕ) → i < j → size * i + size ≤ size * j
apart size i j h = omega (arith, mul-le-mul_left {m = suc i} {n = j} size h, mul-suc size i)

module _ (start size : ℕ) (words ys : List ℕ) (i : ℕ) (long : length ys ≡ size) (fits : start + size * i + size ≤ length words) where
  -- the block itself is ys
  pub block_in : block_at start size i (back (start + size * i) size words ys) ≡ ys
  unfolding block_at
  block_in = part_in (start + size * i) size words ys long fits

  -- every other block of the region is as it was
  pub block_other : (j : ℕ) → (j ≡ i → ⊥) → block_at start size j (back (start + size * i) size words ys) ≡ block_at start size j words
  block_other j h =
      block_apart (start + size * i) size words ys long fits start size j
      (elim (dec_lt j i) [
        | yes l ↦ inl (omega (arith, apart size j i l))
        | no l ↦ inr (omega (arith, apart size i j (omega arith)))
      ])

  -- both as one equation, for any meaning of a block
  pub blocks_set : {M : Type 0} (meaning : List ℕ → M) (count : ℕ) → i < count → blocks_of start size count meaning (back (start + size * i) size words ys) ≡ set (blocks_of start size count meaning words) i (meaning ys)
  blocks_set meaning count h =
      let after = back (start + size * i) size words ys in
      let l1 : length (blocks_of start size count meaning after) ≡ count = length_blocks meaning size start count after in
      let l2 : length (blocks_of start size count meaning words) ≡ count = length_blocks meaning size start count words in
      ext_get_or (meaning ys) (blocks_of start size count meaning after) (set (blocks_of start size count meaning words) i (meaning ys))
      (l1 ∙ sym l2 ∙ sym (length-set (blocks_of start size count meaning words) i (meaning ys)))
      (λ j l.
      elim (ℕ_discrete j i) [
        | yes e ↦ rw (e, blocks_at meaning size start count after i (meaning ys) h, block_in, get_or-set_same (blocks_of start size count meaning words) i (meaning ys) (meaning ys) (omega arith))
        | no ne ↦ rw (blocks_at meaning size start count after j (meaning ys) (omega arith), get_or-set_other (blocks_of start size count meaning words) i j (meaning ys) (meaning ys) ne, blocks_at meaning size start count words j (meaning ys) (omega arith), block_other j ne)
      ])

-- ---- a record of n words that are all c
module _ (n c : ℕ) where
  drop_filled : (a k : ℕ) → drop a (replicate (a + k) c) ≡ replicate k c
  drop_filled zero k = rw (zero-add k)
  drop_filled (suc a) k = rw (suc-add a k) (drop_filled a k)

  take_filled : (a k : ℕ) → take a (replicate (a + k) c) ≡ replicate a c
  take_filled zero k = refl
  take_filled (suc a) k = rw (suc-add a k) (ap {B = List ℕ} (λ l. c ∷ l) (take_filled a k))

  pub part_filled : (start size : ℕ) → start + size ≤ n → take size (drop start (replicate n c)) ≡ replicate size c
  part_filled start size h =
      let e : n ≡ start + (size + (n - start - size)) = omega arith in
      rw (e, drop_filled start (size + (n - start - size)), take_filled size (n - start - size))

  pub blocks_filled : {M : Type 0} (meaning : List ℕ → M) (size start count : ℕ) → start + size * count ≤ n → blocks_of start size count meaning (replicate n c) ≡ replicate count (meaning (replicate size c))
  unfolding blocks_of
  blocks_filled meaning size start zero h = refl
  blocks_filled meaning size start (suc k) h =
      rw (part_filled start size (omega (arith, mul-suc size k)), blocks_filled meaning size (start + size) k (omega (arith, mul-suc size k)))

-- ---- blocks that lie within a part are those of the part
within : (a size k : ℕ) (xs : List ℕ) → a + size ≤ k → take size (drop a (take k xs)) ≡ take size (drop a xs)
within zero size k xs h = take-take size k xs (omega arith)
within (suc a) size k [] h = rw (take-nil k)
within (suc a) size zero (x ∷ xs) h = absurd (omega arith)
within (suc a) size (suc k) (x ∷ xs) h = within a size k xs (omega arith)

pub blocks_within : {M : Type 0} (meaning : List ℕ → M) (size start k a count : ℕ) (words : List ℕ) → a + size * count ≤ k → blocks_of (start + a) size count meaning words ≡ blocks_of a size count meaning (take k (drop start words))
unfolding blocks_of
blocks_within meaning size start k a zero words h = refl
blocks_within meaning size start k a (suc n) words h =
    let e : start + a + size ≡ start + (a + size) = omega arith in
    rw (within a size k (drop start words) (omega (arith, mul-suc size n)), drop-drop a start words, e, blocks_within meaning size start k (a + size) n words (omega (arith, mul-suc size n)))
