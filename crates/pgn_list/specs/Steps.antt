-- The contracts: a search, a list that is added to in place, a list that closes up.
-- Assumes nothing.
use Rattle.std.specs.Prelude.{ℕ, suc, ◌≤◌, ◌<◌, cond, ◌≡◌, List, [], ◌∷◌, length, take, eqb, Option, None, Some}
use Rattle.pgn_list.specs.PgnList.{list_size, add_all, delete_all}

-- the index at which x first stands in a list, or the list's length if absent
unfoldable pub index_of : ℕ → List ℕ → ℕ
index_of x [] = 0
index_of x (y ∷ ys) = cond (eqb y x) 0 (suc (index_of x ys))

-- where x first stands among the first n of a list, n if nowhere
pub record Finding (list : List ℕ) (n x r : ℕ) : Type 0 where
  pub index : r ≡ index_of x (take n list)
  pub inside : r ≤ n

-- xs added to the first n of a list in place: how many they are then and which, or that they are more than a list holds
pub record Extended (entry exit : List ℕ) (n : ℕ) (xs : List ℕ) (held : ℕ) : Type 0 where
  pub number : held ≡ length (add_all (take n entry) xs)
  pub entries : take held exit ≡ add_all (take n entry) xs
  pub inside : held ≤ list_size

abbrev pub Extending : List ℕ → List ℕ → ℕ → List ℕ → Option ℕ → Type 0
Extending entry exit n xs None = list_size < length (add_all (take n entry) xs)
Extending entry exit n xs (Some held) = Extended entry exit n xs held

-- those of the first n that xs does not name, at the front
pub record Keeping (entry exit : List ℕ) (n : ℕ) (xs : List ℕ) (r : ℕ) : Type 0 where
  pub entries : take r exit ≡ delete_all (take n entry) xs
  pub inside : r ≤ n
