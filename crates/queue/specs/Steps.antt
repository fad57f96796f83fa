-- What the steps of a take find and leave. Only private functions cite these; the rule itself is `pull`.
use Rattle.std.specs.Prelude.{◌≡◌, ℕ, suc, ◌<◌, List, ◌++◌, take, drop, slice_index_or, Some}
use Rattle.delivery.specs.Row.{Pulled, pull}
use Rattle.queue.specs.declared.Frame.{Frame}
use Rattle.queue.specs.declared.Tally.{Tally}
use Rattle.queue.specs.Queue.{frame, row_of, tally_of, priority}

-- a frame of zeros: what is read past a list's end
abbrev pub blank : Frame
blank = frame 0 0

-- a list without its element i
unfoldable pub remove_at : {A : Type 0} → ℕ → List A → List A
remove_at i xs = take i xs ++ drop (suc i) xs

-- frame i leaves the row
abbrev pub pulled_at : ℕ → List Frame → Pulled Frame
pulled_at i row = record { frame = slice_index_or row i blank; others = remove_at i row }

-- of the first n frames, frame i is the one that a take gives
pub record First (frames : List Frame) (n i : ℕ) : Type 0 where
  pub inside : i < n
  pub pulled : pull priority (take n frames) ≡ Some (pulled_at i (take n frames))

-- what is counted became t, and the row is as it was
pub record Counting (before after : List ℕ) (t : Tally) : Type 0 where
  pub row : row_of after ≡ row_of before
  pub tally : tally_of after ≡ t
