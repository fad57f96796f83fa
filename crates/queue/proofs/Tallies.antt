-- What is counted, in the words before the frames: a store elsewhere leaves it, and two stores count a frame in or out. Assumes nothing.
use Rattle.std.proofs.Common.{◌≡◌, ℕ, zero, suc, ◌+◌, ◌<◌, ◌≤◌, List, [], ◌∷◌, length, get_or, take, drop, set, sym, refl, ◌∙◌, arith, length-drop, length-set, length-take-le, get_or-drop, get_or-set_other, get_or-take, get_or-set_same, drop-set-lt, ext_get_or}
use lib.Seq.{take-set-le, take-set-lt}
use Rattle.queue.specs.Queue.{block_length, head, frames_of, row_of, tally_in, tally_of, one_more, one_less, counted_in, counted_out}
use Rattle.queue.specs.Steps.{Counting}

-- it lies in the words before the frames
pub tally_still : (a b : List ℕ) → head a ≡ head b → tally_of a ≡ tally_of b
unfolding tally_of
tally_still a b e = rw e

-- the number of frames that wait is none of them
pub tally_stored : (block : List ℕ) (n : ℕ) → tally_of (set block 0 n) ≡ tally_of block
unfolding tally_of
tally_stored [] n = refl
tally_stored (w ∷ ws) n = refl

-- ---- of the ten words behind it one is stored among the eight, one behind them
module _ (w : ℕ) (t : List ℕ) (long : length t ≡ 10) (p : ℕ) (small : p < 8) (x y : ℕ) where
  eight : (k : ℕ) → 8 < suc k → take 8 (set (set t p x) k y) ≡ set (take 8 t) p x
  eight k h = take-set-le 8 (set t p x) k y (omega arith) ∙ take-set-lt 8 t p x small

  stored_accepted : tally_in (w ∷ set (set t p x) 8 y) ≡ record { waiting = set (take 8 t) p x; accepted = y; taken = get_or t 9 0 }
  stored_accepted =
      rw (
        eight 8 (omega arith),
        get_or-set_same (set t p x) 8 y 0 (simp length-set (omega arith)),
        get_or-set_other (set t p x) 8 9 y 0 (λ e. omega arith),
        get_or-set_other t p 9 x 0 (λ e. omega arith),
      )

  stored_taken : tally_in (w ∷ set (set t p x) 9 y) ≡ record { waiting = set (take 8 t) p x; accepted = get_or t 8 0; taken = y }
  stored_taken =
      rw (
        eight 9 (omega arith),
        get_or-set_same (set t p x) 9 y 0 (simp length-set (omega arith)),
        get_or-set_other (set t p x) 9 8 y 0 (λ e. omega arith),
        get_or-set_other t p 8 x 0 (λ e. omega arith),
      )

-- ---- the same of a block
module _ (block : List ℕ) (k p x y : ℕ) (small : p < 8) (low : 0 < k) (high : k < 11) where
  -- the row is as it was
  row_stored : row_of (set (set block (1 + p) x) k y) ≡ row_of block
  unfolding row_of frames_of
  row_stored =
      rw (
        get_or-set_other (set block (1 + p) x) k 0 y 0 (λ e. omega arith),
        get_or-set_other block (1 + p) 0 x 0 (λ e. omega arith),
        drop-set-lt 11 (set block (1 + p) x) k y high,
        drop-set-lt 11 block (1 + p) x (omega arith),
      )

-- what a word of the block is among the ten
module _ (ws : List ℕ) (long : 10 ≤ length ws) (p : ℕ) (small : p < 8) where
  ranked : get_or (take 8 (take 10 ws)) p 0 ≡ get_or ws p 0
  ranked = get_or-take 8 (take 10 ws) p 0 small ∙ get_or-take 10 ws p 0 (omega arith)

  stored_head : (w k x y : ℕ) → k < 10 → head (set (set (w ∷ ws) (1 + p) x) (1 + k) y) ≡ w ∷ set (set (take 10 ws) p x) k y
  stored_head w k x y h =
      let a : 1 + p ≡ suc p = omega arith in
      let b : 1 + k ≡ suc k = omega arith in
      rw (b, a, take-set-lt 10 (set ws p x) k y h, take-set-lt 10 ws p x (omega arith))

pub counted_in_lem : (block : List ℕ) (p : ℕ) → length block ≡ block_length → p < 8
    → Counting block (set (set block (1 + p) (one_more (get_or block (1 + p) 0))) 9 (one_more (get_or (set block (1 + p) (one_more (get_or block (1 + p) 0))) 9 0))) (counted_in p (tally_of block))
unfolding tally_of counted_in
counted_in_lem [] p l small = absurd (omega arith)
counted_in_lem (w ∷ ws) p l small =
    let a : 1 + p ≡ suc p = omega arith in
    let x = one_more (get_or (w ∷ ws) (1 + p) 0) in
    let y = one_more (get_or (set (w ∷ ws) (1 + p) x) 9 0) in
    record {
      row = row_stored (w ∷ ws) 9 p x y small (omega arith) (omega arith);
      tally =
          rw (stored_head ws (omega arith) p small w 8 x y (omega arith))
          (stored_accepted w (take 10 ws) (length-take-le 10 ws (omega arith)) p small x y
          ∙ rw (a, get_or-set_other ws p 8 (one_more (get_or ws p 0)) 0 (λ e. omega arith), ranked ws (omega arith) p small, get_or-take 10 ws 8 0 (omega arith)));
    }

pub counted_out_lem : (block : List ℕ) (p : ℕ) → length block ≡ block_length → p < 8
    → Counting block (set (set block (1 + p) (one_less (get_or block (1 + p) 0))) 10 (one_more (get_or (set block (1 + p) (one_less (get_or block (1 + p) 0))) 10 0))) (counted_out p (tally_of block))
unfolding tally_of counted_out
counted_out_lem [] p l small = absurd (omega arith)
counted_out_lem (w ∷ ws) p l small =
    let a : 1 + p ≡ suc p = omega arith in
    let x = one_less (get_or (w ∷ ws) (1 + p) 0) in
    let y = one_more (get_or (set (w ∷ ws) (1 + p) x) 10 0) in
    record {
      row = row_stored (w ∷ ws) 10 p x y small (omega arith) (omega arith);
      tally =
          rw (stored_head ws (omega arith) p small w 9 x y (omega arith))
          (stored_taken w (take 10 ws) (length-take-le 10 ws (omega arith)) p small x y
          ∙ rw (a, get_or-set_other ws p 9 (one_less (get_or ws p 0)) 0 (λ e. omega arith), ranked ws (omega arith) p small, get_or-take 10 ws 9 0 (omega arith)));
    }

-- ---- the counts read one by one
abbrev eight_of : List ℕ → List ℕ
eight_of block = get_or block 1 0 ∷ get_or block 2 0 ∷ get_or block 3 0 ∷ get_or block 4 0 ∷ get_or block 5 0 ∷ get_or block 6 0 ∷ get_or block 7 0 ∷ get_or block 8 0 ∷ []

each_of : (block : List ℕ) (i : ℕ) → i < 8 → get_or (eight_of block) i 0 ≡ get_or block (1 + i) 0
each_of block zero h = refl
each_of block (suc zero) h = refl
each_of block (suc (suc zero)) h = refl
each_of block (suc (suc (suc zero))) h = refl
each_of block (suc (suc (suc (suc zero)))) h = refl
each_of block (suc (suc (suc (suc (suc zero))))) h = refl
each_of block (suc (suc (suc (suc (suc (suc zero)))))) h = refl
each_of block (suc (suc (suc (suc (suc (suc (suc zero))))))) h = refl
each_of block (suc (suc (suc (suc (suc (suc (suc (suc i)))))))) h = absurd (omega arith)

pub tally_read : (block : List ℕ) → length block ≡ block_length
    → record { waiting = eight_of block; accepted = get_or block 9 0; taken = get_or block 10 0 } ≡ tally_of block
unfolding tally_of
tally_read block l =
    rw (sym (ext_get_or 0 (eight_of block) (take 8 (drop 1 (take 11 block))) (sym as_many) (λ i h. each_of block i h ∙ sym (at i h))), get_or-take 11 block 9 0 (omega arith), get_or-take 11 block 10 0 (omega arith))
  where
    as_many : length (take 8 (drop 1 (take 11 block))) ≡ 8
    as_many = length-take-le 8 (drop 1 (take 11 block)) (simp length-drop (omega (arith, length-take-le 11 block (omega arith))))

    at : (i : ℕ) → i < 8 → get_or (take 8 (drop 1 (take 11 block))) i 0 ≡ get_or block (1 + i) 0
    at i h = get_or-take 8 (drop 1 (take 11 block)) i 0 h ∙ get_or-drop 1 (take 11 block) i 0 ∙ get_or-take 11 block (1 + i) 0 (omega arith)
