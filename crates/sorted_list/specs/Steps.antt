-- What a step of `insert` finds and leaves. Only a private function cites it; the rule is `put_one`.
use Rattle.std.specs.Prelude.{ℕ, suc, ◌≤◌, true, ◌≡◌, List, ◌∷◌, ◌++◌, get_or, take, drop, ltb}
use Rattle.entries.specs.Entries.{every}

-- of the first n those from index `at` on, up by one; what stands at `at` is left to be stored over
abbrev pub moved_up : ℕ → ℕ → List ℕ → List ℕ
moved_up at n xs = take at xs ++ (get_or xs at 0 ∷ (drop at (take n xs) ++ drop (suc n) xs))

-- of the first n those at the end that are above x, up by one; r stand before them, the last of those not above x
pub record MakingRoom (entry exit : List ℕ) (n x r : ℕ) : Type 0 where
  pub inside : r ≤ n
  pub words : exit ≡ moved_up r n entry
  pub above : every (λ y. ltb x y) (drop r (take n entry)) ≡ true
  pub ends : (j : ℕ) → r ≡ suc j → get_or entry j 0 ≤ x
