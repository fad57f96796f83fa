-- The table as a region of a record: its places are those of the part that is lent. Assumes nothing.
use mathlib.Core.Path.{◌≡◌, ap, ◌∙◌}
use mathlib.Core.List.{List}
use Prim.Native.Nat.{ℕ, ◌+◌}
use native.Mathlib.Omega.{arith}
use lib.ListN.{take, drop}
use Rattle.storage.specs.Blocks.{blocks_of}
use Rattle.storage.proofs.Blocks.{blocks_within}
use Rattle.addresses.specs.Table.{places, table_length, place_of, table_of}

pub table_part : (start : ℕ) (words : List ℕ) → blocks_of start 2 places place_of words ≡ table_of (take table_length (drop start words))
unfolding table_of
table_part start words =
    let e : start ≡ start + 0 = omega arith in
    ap (λ a. blocks_of a 2 places place_of words) e ∙ blocks_within place_of 2 start table_length 0 places words (omega arith)
