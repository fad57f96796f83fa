-- Ticket 6, "sorted lists": a list of different PGNs in rising order, the look-up by halving, and what Add, Delete and
-- Create make of it.
-- Assumes nothing.
use Rattle.std.specs.Prelude.{ℕ, zero, suc, ◌+◌, ◌-◌, ◌/◌, ◌≤◌, Bool, true, false, cond, ◌&&◌, ◌≡◌, List, [], ◌∷◌, ◌++◌, length, get_or, take, drop, replicate, eqb, ltb}
use Rattle.entries.specs.Entries.{listed, every}
use Rattle.pgn_list.specs.PgnList.{add_all}

-- ---- the halving rule
-- whether x was found, and how many places were probed
pub record Probed : Type 0 where
  pub found : Bool
  pub probes : ℕ

abbrev pub probed : Bool → ℕ → Probed
probed found probes = record { found = found; probes = probes }

-- one probe more
abbrev pub more : Probed → Probed
more p = probed p.found (suc p.probes)

-- "the middle place of those left, the lower of two": of the places from lo up to hi
abbrev pub middle : ℕ → ℕ → ℕ
middle lo hi = lo + (hi - lo - 1) / 2

-- k is at least how many places are left
unfoldable pub halving_in : ℕ → List ℕ → ℕ → ℕ → ℕ → Probed
halving_in zero list x lo hi = probed false 0
halving_in (suc k) list x lo hi =
    cond (ltb lo hi)
    (cond (eqb (get_or list (middle lo hi) 0) x) (probed true 1)
    (cond (ltb (get_or list (middle lo hi) 0) x)
    (more (halving_in k list x (suc (middle lo hi)) hi))
    (more (halving_in k list x lo (middle lo hi)))))
    (probed false 0)

-- among the places from lo up to hi: "each the middle place of those left, the lower of two, ending where it is equal"
abbrev pub halving : List ℕ → ℕ → ℕ → ℕ → Probed
halving list x lo hi = halving_in (hi - lo) list x lo hi

-- among all places of a list
unfoldable pub halved : ℕ → List ℕ → Probed
halved x list = halving list x 0 (length list)

-- "at most 6 for each plain list"
abbrev pub most_probes : ℕ
most_probes = 6

-- the contract of a search
pub record Finding (list : List ℕ) (x : ℕ) (found : Bool) (probes : ℕ) : Type 0 where
  pub answer : probed found probes ≡ halved x list
  pub few : probes ≤ most_probes

-- ---- the order
-- each is below all that follow it
unfoldable pub rising : List ℕ → Bool
rising [] = true
rising (x ∷ xs) = every (λ y. ltb x y) xs && rising xs

abbrev pub Rising : List ℕ → Type 0
Rising xs = rising xs ≡ true

-- ---- what commands make of it
-- x put behind the last that is not above it
unfoldable pub put_one : List ℕ → ℕ → List ℕ
put_one [] x = x ∷ []
put_one (y ∷ ys) x = cond (every (λ z. ltb x z) ys) (cond (ltb x y) (x ∷ y ∷ ys) (y ∷ x ∷ ys)) (y ∷ put_one ys x)

unfoldable pub put_all : List ℕ → List ℕ → List ℕ
put_all xs [] = xs
put_all xs (y ∷ ys) = put_all (put_one xs y) ys

-- where it belongs, and one that is listed stays once
unfoldable pub insert_one : List ℕ → ℕ → List ℕ
insert_one xs x = cond (listed x xs) xs (put_one xs x)

-- one after the other; `insert_all []` of the PGNs in order of addition is the sorted list
unfoldable pub insert_all : List ℕ → List ℕ → List ℕ
insert_all xs [] = xs
insert_all xs (y ∷ ys) = insert_all (insert_one xs y) ys

-- what Add appends to a list of PGNs in order of addition
abbrev pub appended : List ℕ → List ℕ → List ℕ
appended es xs = drop (length es) (add_all es xs)

-- a list made `size` long: those behind are left out, those that are missing are 0
unfoldable pub fitted : ℕ → List ℕ → List ℕ
fitted size xs = take size (xs ++ replicate size 0)
