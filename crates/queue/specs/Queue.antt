-- One port's queue: what a block of words means, and what a join and a take do. The rules themselves are those of the crate `delivery`; what is counted is
-- docs/RULES.md, "How full a queue is".
use Rattle.std.specs.Prelude.{◌≡◌, ℕ, ◌+◌, ◌-◌, ◌*◌, ◌/◌, ◌%◌, ◌^◌, Bool, false, cond, List, [], ◌∷◌, length, take, drop, replicate, ◌==◌, slice_index, slice_set, Option, None, Some}
use Rattle.identifier.specs.Identifier.{priority_of}
use Rattle.delivery.specs.Row.{room, join, pull, given, kept}
use Rattle.queue.specs.declared.Frame.{Frame}
use Rattle.queue.specs.declared.Tally.{Tally}

-- "Each port has one queue of at most 32 frames."
abbrev pub size : ℕ
size = 32

-- The words of a block: eleven before the frames, and two for each frame.
abbrev pub head_length : ℕ
head_length = 11

abbrev pub block_length : ℕ
block_length = 2 * size + head_length

-- ---- what a block means
-- Two words are a frame: the identifier + 2^32 times the length, and the bytes, packed least significant first.
abbrev pub frame : ℕ → ℕ → Frame
frame head bytes = record { id = head % 2 ^ 32; len = head / 2 ^ 32; bytes = bytes }

unfoldable pub frames_in : List ℕ → List Frame
frames_in [] = []
frames_in (head ∷ []) = []
frames_in (head ∷ bytes ∷ words) = frame head bytes ∷ frames_in words

-- The frames of a block, waiting or not.
unfoldable pub frames_of : List ℕ → List Frame
frames_of block = frames_in (drop head_length block)

-- The row: the frames that wait, in order of joining. They are the first `count`, and all 32 where the count says more. The words behind them are the
-- block's free part: no rule reads them.
unfoldable pub row_of : List ℕ → List Frame
row_of block = take (slice_index block 0) (frames_of block)

-- A frame's rank: the lower the number, the higher.
abbrev pub priority : Frame → ℕ
priority f = priority_of f.id

-- ---- what is counted
-- the words before the frames: how many wait, the eight counts, accepted, taken
abbrev pub head : List ℕ → List ℕ
head block = take head_length block

abbrev pub tally_in : List ℕ → Tally
tally_in words = record { waiting = take 8 (drop 1 words); accepted = slice_index words 9; taken = slice_index words 10 }

unfoldable pub tally_of : List ℕ → Tally
tally_of block = tally_in (head block)

-- "the numbers reported are remainders by 2^64": a word counts so, up and down, whatever it held
abbrev pub one_more : ℕ → ℕ
one_more n = (n + 1) % 2 ^ 64

abbrev pub one_less : ℕ → ℕ
one_less n = (n + (2 ^ 64 - 1)) % 2 ^ 64

unfoldable pub counted_in : ℕ → Tally → Tally
counted_in rank t = record { waiting = slice_set t.waiting rank (one_more (slice_index t.waiting rank)); accepted = one_more t.accepted; taken = t.taken }

unfoldable pub counted_out : ℕ → Tally → Tally
counted_out rank t = record { waiting = slice_set t.waiting rank (one_less (slice_index t.waiting rank)); accepted = t.accepted; taken = one_more t.taken }

-- ---- a port's queue: its row and what is counted there. No row depends on what is counted.
pub record Queued : Type 0 where
  pub row : List Frame
  pub tally : Tally

unfoldable pub queue_of : List ℕ → Queued
queue_of block = record { row = row_of block; tally = tally_of block }

-- a frame that is accepted counts, a lost one doesn't
abbrev pub joined : Queued → Frame → Queued
joined x f = record { row = join size x.row f; tally = cond (room size x.row) (counted_in (priority f) x.tally) x.tally }

-- a frame that is taken counts, a take that gives nothing doesn't
abbrev pub tally_after : Option Frame → Tally → Tally
tally_after None t = t
tally_after (Some f) t = counted_out (priority f) t

abbrev pub taking : Queued → Queued
taking x = record { row = kept (pull priority x.row); tally = tally_after (given (pull priority x.row)) x.tally }

-- frames sent to it, one after the other
abbrev pub sent_all : Queued → List Frame → Queued
sent_all x [] = x
sent_all x (f ∷ fs) = sent_all (joined x f) fs

-- port q's queue after a call, by the port that it takes from, if it is a take, and the frames that it sends there
abbrev pub queue_next : Option ℕ → ℕ → Queued → List Frame → Queued
queue_next None q x sent = sent_all x sent
queue_next (Some p) q x sent = cond (p == q) (taking x) x

-- as power_on leaves it
abbrev pub idle : Queued
idle = record { row = []; tally = record { waiting = replicate 8 0; accepted = 0; taken = 0 } }

-- ---- join (forwarding rule 3)
-- A frame was sent to the block `before`; `after` is the block then, and r whether the frame was accepted.
pub record Joining (before after : List ℕ) (f : Frame) (r : Bool) : Type 0 where
  pub state : queue_of after ≡ joined (queue_of before) f
  pub answer : r ≡ room size (row_of before)
  -- lost: word for word as it was
  pub lost : r ≡ false → after ≡ before
  pub long : length after ≡ length before

-- ---- take (forwarding rule 4)
-- A take was made on the block `before`; `after` is the block then, and r the answer.
pub record Taking (before after : List ℕ) (r : Option Frame) : Type 0 where
  pub state : queue_of after ≡ taking (queue_of before)
  pub answer : r ≡ given (pull priority (row_of before))
  -- nothing waiting: word for word as it was
  pub nothing : r ≡ None → after ≡ before
  pub long : length after ≡ length before
