-- The tables of the ports, one after the other. Assumes nothing.
use mathlib.Core.Path.{◌≡◌, refl, ◌∙◌}
use mathlib.Core.List.{List, [], ◌∷◌}
use Prim.Native.Nat.{ℕ, ◌+◌, ◌*◌, ◌/◌, ◌≤◌}
use native.Mathlib.Omega.{arith}
use lib.ListN.{length, get_or, set, take, drop}
use Rattle.std.proofs.Common.{map}
use Rattle.std.specs.List.{list_any}
use Rattle.storage.specs.Blocks.{block_at}
use Rattle.storage.proofs.Parts.{back, length_back}
use Rattle.storage.proofs.Blocks.{length_blocks, blocks_at, blocks_set}
use Rattle.address_pairs.specs.AddressPairs.{outer_side, stands, any_outer, pairs_length, pairs_of, tables_of}

pub table_count : (words : List ℕ) → length (tables_of words) ≡ length words / pairs_length
unfolding tables_of
table_count words = length_blocks pairs_of pairs_length 0 (length words / pairs_length) words

-- table i is what its words mean
pub table_at : (words : List ℕ) (i : ℕ) → pairs_length * i + pairs_length ≤ length words
    → get_or (tables_of words) i [] ≡ pairs_of (take pairs_length (drop (pairs_length * i) words))
unfolding tables_of block_at
table_at words i h =
    let z : 0 + pairs_length * i ≡ pairs_length * i = omega arith in
    blocks_at pairs_of pairs_length 0 (length words / pairs_length) words i [] (omega arith) ∙ rw z

-- a table that was lent and came back
pub table_set : (words ys : List ℕ) (i : ℕ) → pairs_length * i + pairs_length ≤ length words → length ys ≡ pairs_length
    → tables_of (back (pairs_length * i) pairs_length words ys) ≡ set (tables_of words) i (pairs_of ys)
unfolding tables_of
table_set words ys i h long =
    let z : 0 + pairs_length * i ≡ pairs_length * i = omega arith in
    rw (length_back (pairs_length * i) pairs_length words ys long h)
    (rw z at (blocks_set 0 pairs_length words ys i long (omega arith) pairs_of (length words / pairs_length) (omega arith)))

-- ---- one table after the other
pub any_is : (address : ℕ) (ps : List (List ℕ)) → list_any (λ p. stands outer_side (pairs_of p) address) ps ≡ any_outer (map pairs_of ps) address
unfolding any_outer
any_is address [] = refl
any_is address (p ∷ ps) = rw (any_is address ps)
