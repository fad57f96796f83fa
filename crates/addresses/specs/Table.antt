-- The address table: what its words mean, and what is asked of it.
-- Assumes nothing.
use Rattle.std.specs.Prelude.{ℕ, zero, suc, ◌*◌, Bool, true, false, not, ◌&&◌, ◌||◌, cond, ◌≡◌, List, [], ◌∷◌, ◌++◌, get_or, eqb, Option, None, Some}
use Rattle.storage.specs.Blocks.{blocks_of}
use Rattle.addresses.specs.declared.Held.{Held}

-- a place for each address 0 to 253, of two words
abbrev pub places : ℕ
places = 254

abbrev pub table_length : ℕ
table_length = 2 * places

-- what an address is: free, or held by a NAME that was recorded from a port
abbrev pub Place : Type 0
Place = Option Held

abbrev pub held : ℕ → ℕ → Place
held port name = Some (record { port = port; name = name })

-- an arrival port of 0 is a free address, whatever NAME stands beside it
unfoldable pub place_from : ℕ → ℕ → Place
place_from port name = cond (eqb port 0) None (held port name)

unfoldable pub place_of : List ℕ → Place
place_of words = place_from (get_or words 0 0) (get_or words 1 0)

-- the table, a place for each address. The NAME words of free addresses are its free part.
unfoldable pub table_of : List ℕ → List Place
table_of words = blocks_of 0 2 places place_of words

-- ---- what is asked
unfoldable pub held_by : ℕ → Place → Bool
held_by name None = false
held_by name (Some holder) = eqb holder.name name

unfoldable pub held_on : ℕ → Place → Bool
held_on port None = false
held_on port (Some holder) = eqb holder.port port

-- the NAME that "the table gives the SA", if it gives one
unfoldable pub name_in : Place → Option ℕ
name_in None = None
name_in (Some holder) = Some holder.name

unfoldable pub name_at : List Place → ℕ → Option ℕ
name_at table address = name_in (get_or table address None)

-- whether a NAME holds an address
unfoldable pub stands_in : ℕ → List Place → Bool
stands_in name [] = false
stands_in name (place ∷ rest) = held_by name place || stands_in name rest

-- the numbers below n that pass a test, rising
unfoldable pub below : (ℕ → Bool) → ℕ → List ℕ
below test zero = []
below test (suc n) = below test n ++ cond (test n) (n ∷ []) []

-- function 64: "its addresses in rising order; the unit's own is left out"
unfoldable pub is_listed : ℕ → ℕ → List Place → ℕ → Bool
is_listed port except table address = held_on port (get_or table address None) && not (eqb address except)

unfoldable pub addresses_on : ℕ → ℕ → List Place → List ℕ
addresses_on port except table = below (is_listed port except table) places

-- ---- a NAME stands at one address at most
abbrev pub OneAddress : List Place → Type 0
OneAddress table =
    (name i j : ℕ) → held_by name (get_or table i None) ≡ true → held_by name (get_or table j None) ≡ true → i ≡ j
