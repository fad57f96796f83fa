-- What a line holds behind a push: as much of both as there is room for.
-- Assumes nothing.
use Rattle.std.proofs.Common.{◌≡◌, ◌≤◌, ◌++◌, ◌∙◌, ℕ, List, take, ◌+◌, ◌-◌, length, min, sym, ap, arith}
use Rattle.std.proofs.lemmas.List.{length-take-le, take_min}
use Rattle.std.proofs.Math.Seq.{take-append-add}

pub pushed : (room len : ℕ) (xs b : List ℕ) → len ≤ room → length xs ≡ room → take len xs ++ take (min (room - len) (length b)) b ≡ take room (take len xs ++ b)
pushed room len xs b h e =
    let m : length (take len xs) ≡ len = length-take-le len xs (omega arith) in
    let s : length (take len xs) + (room - len) ≡ room = omega arith in
    ap (λ t. take len xs ++ t) (take_min (room - len) b) ∙ sym (take-append-add (take len xs) b (room - len)) ∙ ap (λ k. take k (take len xs ++ b)) s
