-- The contracts of join and take, from what their steps did to the frames of the block. Assumes nothing.
use Rattle.std.proofs.Common.{◌≡◌, ℕ, ◌+◌, ◌-◌, ◌<◌, ◌≤◌, min, true, false, List, [], ◌∷◌, length, get_or, take, set, refl, ◌∙◌, true≢false, not-suc-le-zero, add-one, arith, length-take, get_or-take, take-suc-set, le-ltb, lt-ltb}
use Rattle.queue.specs.declared.Frame.{Frame}
use Rattle.std.specs.Prelude.{None, Some}
use Rattle.queue.specs.Queue.{size, block_length, head, frames_of, row_of, tally_of, counted_in, counted_out, priority, Queued, queue_of, Joining, Taking}
use Rattle.queue.specs.Steps.{blank, remove_at, First, Counting}
use Rattle.queue.proofs.Words.{frames_length}
use Rattle.queue.proofs.Tallies.{tally_still, tally_stored}
use Rattle.queue.proofs.Lists.{take_held}

-- the row of a block whose count was stored
counted : (block : List ℕ) (n : ℕ) → 0 < length block → row_of (set block 0 n) ≡ take n (frames_of block)
unfolding row_of frames_of
counted [] n h = absurd (not-suc-le-zero h)
counted (k ∷ words) n h = refl

-- the queue of a block, from its row and what is counted
queue_is : (block : List ℕ) {x : Queued} → row_of block ≡ x.row → tally_of block ≡ x.tally → queue_of block ≡ x
unfolding queue_of
queue_is block r t = rw (r, t)

-- a count of 0: no frame waits, as in a block of zeros
pub row_empty : (block : List ℕ) → get_or block 0 0 ≡ 0 → row_of block ≡ []
unfolding row_of
row_empty block h = rw h

module _ (block : List ℕ) (long : length block ≡ block_length) where
  -- how many wait: the count, and 32 where it says more
  pub row_length : length (row_of block) ≡ min (get_or block 0 0) size
  unfolding row_of
  row_length = simp length-take (rw (frames_length block long))

  module _ (n : ℕ) (waits : n ≡ length (row_of block)) where
    row_is : row_of block ≡ take n (frames_of block)
    unfolding row_of
    row_is = take_held (get_or block 0 0) (frames_of block) ∙ rw waits

    -- ---- join
    pub joined_in : (put after : List ℕ) (f : Frame) → n < size → length put ≡ block_length → length after ≡ block_length → frames_of put ≡ set (frames_of block) n f → head put ≡ head block
        → Counting (set put 0 (n + 1)) after (counted_in (priority f) (tally_of (set put 0 (n + 1)))) → Joining block after f true
    unfolding queue_of
    joined_in put after f h l la e hd C =
        let room-is = lt-ltb (length (row_of block)) size (omega arith) in
        record {
          state =
              queue_is after
              (C.row ∙ rw (counted put (n + 1) (omega arith), e, add-one n, room-is, row_is) (take-suc-set (frames_of block) n f (omega (arith, frames_length block long))))
              (C.tally ∙ rw (tally_stored put (n + 1), tally_still put block hd, room-is));
          answer = rw room-is;
          lost = λ e. absurd (true≢false e);
          long = omega arith;
        }

    pub lost : (f : Frame) → size ≤ n → Joining block block f false
    unfolding queue_of
    lost f h = record {
      state = rw (le-ltb (length (row_of block)) size (omega arith));
      answer = rw (le-ltb (length (row_of block)) size (omega arith));
      lost = λ e. refl;
      long = refl;
    }

    -- ---- take
    empty : (row : List Frame) → length row ≡ 0 → row ≡ []
    empty [] h = refl
    empty (f ∷ row) h = absurd (omega arith)

    pub took_nothing : n ≡ 0 → Taking block block None
    unfolding queue_of
    took_nothing z =
        let e : row_of block ≡ [] = empty (row_of block) (omega arith) in
        record { state = queue_is block (rw e) (rw e); answer = rw e; nothing = λ e. refl; long = refl }

    pub took : (closed after : List ℕ) (at : ℕ) (f : Frame) → length closed ≡ block_length → length after ≡ block_length → First (frames_of block) n at
        → f ≡ get_or (frames_of block) at blank → take (n - 1) (frames_of closed) ≡ remove_at at (take n (frames_of block)) → head closed ≡ head block
        → Counting (set closed 0 (n - 1)) after (counted_out (priority f) (tally_of (set closed 0 (n - 1)))) → Taking block after (Some f)
    unfolding queue_of
    took closed after at f l la F g c hd C =
        let gone = get_or-take n (frames_of block) at blank F.inside in
        record {
          state =
              queue_is after
              (C.row ∙ rw (counted closed (n - 1) (omega arith), c, row_is, F.pulled))
              (C.tally ∙ rw (tally_stored closed (n - 1), tally_still closed block hd, row_is, F.pulled, gone, g));
          answer = rw (row_is, F.pulled, gone, g);
          nothing = λ e. cc;
          long = omega arith;
        }
