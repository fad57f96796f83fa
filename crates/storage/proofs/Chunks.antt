-- The blocks of a record are what its chunks mean, as the library cuts a slice into arrays of one size. Assumes nothing.
use Rattle.std.proofs.Common.{◌≡◌, refl, ap, ◌∙◌, ℕ, zero, suc, ◌+◌, ◌≤◌, List, ◌∷◌, take, drop, map, arith}
use lib.Seq.{drop-drop}
use Rattle.std.specs.Simd.{first_chunks}
use Rattle.storage.specs.Blocks.{blocks_of}

pub chunks_mean : {M : Type 0} (meaning : List ℕ → M) (size start n : ℕ) (words : List ℕ) → map meaning (first_chunks size n (drop start words)) ≡ blocks_of start size n meaning words
unfolding blocks_of
chunks_mean meaning size start zero words = refl
chunks_mean {M} meaning size start (suc n) words =
    ap {B = List M} (λ ms. meaning (take size (drop start words)) ∷ ms)
    (ap {A = List ℕ} (λ xs. map meaning (first_chunks size n xs)) (drop-drop size start words) ∙ chunks_mean meaning size (start + size) n words)

-- the first of them
pub first_of : {A : Type 0} (size n m : ℕ) (xs : List A) → n ≤ m → take n (first_chunks size m xs) ≡ first_chunks size n xs
first_of size zero m xs h = refl
first_of size (suc n) zero xs h = absurd (omega arith)
first_of {A} size (suc n) (suc m) xs h = ap {B = List (List A)} (λ cs. take size xs ∷ cs) (first_of size n m (drop size xs) (omega arith))
