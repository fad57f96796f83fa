-- What the tables of any words give is an address. Assumes nothing.
use mathlib.Core.Path.{◌≡◌, refl}
use mathlib.Core.Bool.{Bool, true, false, cond}
use mathlib.Core.List.{List, [], ◌∷◌}
use Rattle.std.specs.Prelude.{Some}
use Prim.Native.Nat.{ℕ, zero, suc, ◌+◌, ◌*◌, ◌/◌, ◌≤◌, ◌<◌, min}
use native.Mathlib.Nat.{mod-lt}
use native.Mathlib.Decide.{dec_lt}
use native.Mathlib.Omega.{arith}
use lib.Dec.{eqb}
use lib.ListN.{length, get_or, take, drop}
use Rattle.address_pairs.specs.AddressPairs.{AddressPair, side, look_up, address_count, most_pairs, pairs_length, pair_at, pairs_in, pairs_of, tables_of}
use Rattle.address_pairs.proofs.Tables.{table_count, table_at}

side_small : (s : ℕ) (words : List ℕ) (a : ℕ) → side s (pair_at words a) < address_count
side_small zero words a = mod-lt (get_or words a 0) (omega arith)
side_small (suc s) words a = mod-lt (get_or words (a + 1) 0) (omega arith)

in_small : (n : ℕ) (words : List ℕ) (from to address o : ℕ) → look_up from to (pairs_in n words) address ≡ Some o → o < address_count
unfolding look_up pairs_in
in_small zero words from to address o e = let z : ◌≡◌ {A = ℕ} 0 1 = cc in omega arith
in_small (suc n) words from to address o e =
    go (eqb (side from (pair_at words 0)) address) e (in_small n (drop 2 words) from to address o)
  where
    go : (b : Bool) → cond b (Some (side to (pair_at words 0))) (look_up from to (pairs_in n (drop 2 words)) address) ≡ Some o
        → (look_up from to (pairs_in n (drop 2 words)) address ≡ Some o → o < address_count) → o < address_count
    go true e later = let s : side to (pair_at words 0) ≡ o = cc in omega (arith, s, side_small to words 0)
    go false e later = later e

of_small : (words : List ℕ) (from to address o : ℕ) → look_up from to (pairs_of words) address ≡ Some o → o < address_count
unfolding pairs_of
of_small words from to address o e = in_small (min (get_or words 0 0) most_pairs) (drop 1 words) from to address o e

past : (tables : List (List AddressPair)) (i : ℕ) → length tables ≤ i → get_or tables i [] ≡ []
past [] i h = refl
past (t ∷ ts) zero h = absurd (omega arith)
past (t ∷ ts) (suc i) h = past ts i (omega arith)

pub gives_small : (words : List ℕ) (i from to address o : ℕ) → look_up from to (get_or (tables_of words) i []) address ≡ Some o → o < address_count
unfolding look_up
gives_small words i from to address o e = elim (dec_lt i (length words / pairs_length)) [
  | yes h ↦ of_small (take pairs_length (drop (pairs_length * i) words)) from to address o (rw (table_at words i (omega arith)) at e)
  | no h ↦ let f = rw (past (tables_of words) i (omega (arith, table_count words))) at e in
      let z : ◌≡◌ {A = ℕ} 0 1 = cc in omega arith
]
