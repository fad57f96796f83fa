-- A pair's list of PGNs, in order of addition, and what Add (function 2) and Delete (3) make of it, for the entries xs.
-- Assumes nothing.
use Rattle.std.specs.Prelude.{ℕ, Bool, true, cond, not, ◌&&◌, List, [], ◌∷◌, ◌++◌}
use Rattle.entries.specs.Entries.{listed}

-- "a list of at most 32 PGNs"
abbrev pub list_size : ℕ
list_size = 32

-- the entries of es that xs does not name, in their order
unfoldable pub delete_all : List ℕ → List ℕ → List ℕ
delete_all [] xs = []
delete_all (e ∷ es) xs = cond (listed e xs) (delete_all es xs) (e ∷ delete_all es xs)

-- "Adding a listed PGN changes nothing"; another goes to the end
unfoldable pub add_one : List ℕ → ℕ → List ℕ
add_one es x = cond (listed x es) es (es ++ (x ∷ []))

-- one after the other: "A PGN named twice counts once"
unfoldable pub add_all : List ℕ → List ℕ → List ℕ
add_all es [] = es
add_all es (x ∷ xs) = add_all (add_one es x) xs

-- no element stands twice
unfoldable pub once : List ℕ → Bool
once [] = true
once (e ∷ es) = not (listed e es) && once es
