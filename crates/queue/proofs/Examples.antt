-- The definitions of `specs/` on small rows and blocks, by computation. Assumes nothing.
use Rattle.std.proofs.Common.{◌≡◌, ℕ, ◌+◌, ◌*◌, ◌^◌, true, false, List, [], ◌∷◌, length, replicate, refl}
use Rattle.std.specs.Prelude.{Some}
use Rattle.delivery.specs.Row.{room, join, pull, given, kept}
use Rattle.queue.specs.declared.Frame.{Frame}
use Rattle.queue.specs.Queue.{size, block_length, frames_in, frames_of, row_of, priority}

-- a frame of priority p, told apart by its bytes
abbrev of : ℕ → ℕ → Frame
of p b = record { id = p * 2 ^ 26; len = 8; bytes = b }

-- ---- P11: priorities 6, 6, 3 accepted; three takes: 3, first 6, second 6
abbrev row : List Frame
row = join size (join size (join size [] (of 6 1)) (of 6 2)) (of 3 3)

p11_1 : given (pull priority row) ≡ Some (of 3 3)
p11_1 = refl

p11_2 : given (pull priority (kept (pull priority row))) ≡ Some (of 6 1)
p11_2 = refl

p11_3 : given (pull priority (kept (pull priority (kept (pull priority row))))) ≡ Some (of 6 2)
p11_3 = refl

-- ---- example 12: 32 waiting, one more: lost; take: given; one more: accepted
abbrev full : List Frame
full = replicate size (of 6 1)

lost : (room size full ≡ false) × (join size full (of 0 2) ≡ full)
lost = (refl, refl)

accepted : (given (pull priority full) ≡ Some (of 6 1)) × (room size (kept (pull priority full)) ≡ true)
accepted = (refl, refl)

-- ---- blocks: the first `count` frames wait, and a count above what there is means all
abbrev head : ℕ → ℕ
head p = p * 2 ^ 26 + 8 * 2 ^ 32

two : row_of (2 ∷ 0 ∷ 0 ∷ 0 ∷ 1 ∷ 0 ∷ 0 ∷ 1 ∷ 0 ∷ 2 ∷ 0 ∷ head 6 ∷ 1 ∷ head 3 ∷ 3 ∷ 7 ∷ 7 ∷ []) ≡ of 6 1 ∷ of 3 3 ∷ []
unfolding row_of frames_of frames_in
two = refl

wild : length (row_of (replicate block_length (2 ^ 64))) ≡ size
unfolding row_of frames_of frames_in
wild = refl
