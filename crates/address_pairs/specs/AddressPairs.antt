-- Ticket 14, "For each port other than 1 a table of up to 16 address pairs, outer and inner": what the words of the tables mean, what is asked of them, and
-- what an entry that is added is refused with.
-- Assumes nothing.
use Rattle.std.specs.Prelude.{ℕ, zero, suc, ◌+◌, ◌-◌, ◌/◌, ◌%◌, min, Bool, true, false, cond, not, ◌&&◌, ◌||◌, List, [], ◌∷◌, ◌++◌, length, get_or, set, drop, eqb, leb, ltb, Option, None, Some}
use Rattle.storage.specs.Blocks.{blocks_of}
use Rattle.checks.specs.Checks.{check, first}

-- the outer address stands on port 1's segment for the inner one behind the table's own port
pub record AddressPair : Type 0 where
  pub outer : ℕ
  pub inner : ℕ

abbrev pub pair_of : ℕ → ℕ → AddressPair
pair_of outer inner = record { outer = outer; inner = inner }

-- the two sides of a pair
abbrev pub outer_side : ℕ
outer_side = 0

abbrev pub inner_side : ℕ
inner_side = 1

abbrev pub side : ℕ → AddressPair → ℕ
side zero p = p.outer
side (suc s) p = p.inner

-- ---- what is asked of a table
-- the other side of the first pair that has an address on one side
unfoldable pub look_up : ℕ → ℕ → List AddressPair → ℕ → Option ℕ
look_up from to [] address = None
look_up from to (p ∷ ps) address = cond (eqb (side from p) address) (Some (side to p)) (look_up from to ps address)

-- "Towards port 1 the SA turns from inner to outer."
abbrev pub out_of : List AddressPair → ℕ → Option ℕ
out_of table address = look_up inner_side outer_side table address

-- "From port 1 the destination turns from outer to inner"
abbrev pub in_to : List AddressPair → ℕ → Option ℕ
in_to table address = look_up outer_side inner_side table address

-- whether an address stands on a side of a table
unfoldable pub stands : ℕ → List AddressPair → ℕ → Bool
stands s [] address = false
stands s (p ∷ ps) address = eqb (side s p) address || stands s ps address

-- whether an outer address stands in one of the tables
unfoldable pub any_outer : List (List AddressPair) → ℕ → Bool
any_outer [] address = false
any_outer (t ∷ ts) address = stands outer_side t address || any_outer ts address

-- no address stands twice on a side
unfoldable pub once : ℕ → List AddressPair → Bool
once s [] = true
once s (p ∷ ps) = not (stands s ps (side s p)) && once s ps

-- ---- the words: for each port from 2 on a block of how many pairs there are, and those
-- the addresses that a NAME may hold, 0 to 253
abbrev pub address_count : ℕ
address_count = 254

abbrev pub most_pairs : ℕ
most_pairs = 16

abbrev pub pairs_length : ℕ
pairs_length = 33

-- the pair whose words begin at a word; an address word counts by its remainder
abbrev pub pair_at : List ℕ → ℕ → AddressPair
pair_at words a = record { outer = get_or words a 0 % address_count; inner = get_or words (a + 1) 0 % address_count }

unfoldable pub pairs_in : ℕ → List ℕ → List AddressPair
pairs_in zero words = []
pairs_in (suc n) words = pair_at words 0 ∷ pairs_in n (drop 2 words)

-- a count above sixteen is sixteen
unfoldable pub pairs_of : List ℕ → List AddressPair
pairs_of words = pairs_in (min (get_or words 0 0) most_pairs) (drop 1 words)

-- as many tables as there are whole blocks
unfoldable pub tables_of : List ℕ → List (List AddressPair)
tables_of words = blocks_of 0 pairs_length (length words / pairs_length) pairs_of words

-- the table of a port, from 2 on
abbrev pub table_of : List (List AddressPair) → ℕ → List AddressPair
table_of tables port = get_or tables (port - 2) []

-- ---- an entry is added
-- "32 address not 0 to 253": either
abbrev pub wrong_address : ℕ → ℕ → Bool
wrong_address outer inner = not (ltb outer address_count && ltb inner address_count)

-- "30 an address twice": "No inner address occurs twice in a table and no outer one twice in the unit"
abbrev pub twice : List (List AddressPair) → ℕ → ℕ → ℕ → Bool
twice tables port outer inner = stands inner_side (table_of tables port) inner || any_outer tables outer

-- "31 table full"
abbrev pub full : List AddressPair → Bool
full table = leb most_pairs (length table)

-- "checked 32, 30, 31"
unfoldable pub refusal_of : List (List AddressPair) → ℕ → ℕ → ℕ → ℕ
refusal_of tables port outer inner =
    first
    (check (wrong_address outer inner) 32
    ∷ check (twice tables port outer inner) 30
    ∷ check (full (table_of tables port)) 31
    ∷ [])

-- it goes behind the others
abbrev pub added : List (List AddressPair) → ℕ → ℕ → ℕ → List (List AddressPair)
added tables port outer inner = set tables (port - 2) (table_of tables port ++ pair_of outer inner ∷ [])
