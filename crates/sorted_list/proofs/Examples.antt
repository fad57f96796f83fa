-- The halving rule and the order on short lists, computed. Assumes nothing.
use mathlib.Core.Path.{◌≡◌, refl}
use mathlib.Core.Bool.{true, false}
use mathlib.Core.List.{List, [], ◌∷◌}
use Prim.Native.Nat.{ℕ}
use Rattle.entries.specs.Entries.{listed, every}
use Rattle.sorted_list.specs.SortedList.{probed, halving_in, halved, put_one, insert_one, insert_all}

abbrev four : List ℕ
four = 10 ∷ 20 ∷ 30 ∷ 40 ∷ []

-- an empty list, no probe; of four the second is first, and where it is equal the search ends
pub halving_short :
    (halved 10 [] ≡ probed false 0)
    × (halved 20 four ≡ probed true 1)
    × (halved 10 four ≡ probed true 2)
    × (halved 30 four ≡ probed true 2)
    × (halved 40 four ≡ probed true 3)
    × (halved 25 four ≡ probed false 2)
    × (halved 50 four ≡ probed false 3)
unfolding halved halving_in
halving_short = (refl, refl, refl, refl, refl, refl, refl)

-- in any order of addition, one named twice once
pub commands_short :
    (insert_all [] (30 ∷ 10 ∷ 40 ∷ 20 ∷ 10 ∷ []) ≡ four)
    × (insert_all [] four ≡ four)
unfolding insert_all insert_one put_one listed every
commands_short = (refl, refl)
