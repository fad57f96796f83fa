-- A table looked through, pair by pair. Assumes nothing.
use mathlib.Core.Path.{◌≡◌, refl, sym, ap}
use mathlib.Core.Bool.{Bool, true, false, cond, ◌||◌}
use mathlib.Core.List.{List, [], ◌∷◌}
use Rattle.std.specs.Prelude.{Option, None, Some}
use Prim.Native.Nat.{ℕ, zero, suc, ◌+◌, ◌/◌, ◌%◌, ◌<◌, min}
use native.Mathlib.Omega.{arith}
use lib.Dec.{eqb}
use lib.ListN.{length, get_or, take, drop, length-drop}
use lib.Seq.{get_or-drop, get_or-take, take_all}
use Rattle.storage.proofs.Chunks.{first_of}
use Rattle.std.proofs.Common.{map}
use Rattle.std.specs.List.{find}
use Rattle.std.specs.Option.{option_map, is_some}
use Rattle.std.specs.Simd.{first_chunks}
use Rattle.address_pairs.specs.Calls.{pair_in}
use Rattle.address_pairs.specs.AddressPairs.{AddressPair, side, look_up, stands, address_count, most_pairs, pairs_length, pair_at, pairs_in, pairs_of}

-- ---- the words of a pair, and how many pairs there are
pub side_is : (words : List ℕ) (s : ℕ) → s < 2 → get_or words s 0 % address_count ≡ side s (pair_in words)
side_is words zero h = refl
side_is words (suc zero) h = refl
side_is words (suc (suc s)) h = absurd (omega arith)

length_in : (n : ℕ) (words : List ℕ) → length (pairs_in n words) ≡ n
unfolding pairs_in
length_in zero words = refl
length_in (suc n) words = ap suc (length_in n (drop 2 words))

pub as_many : (words : List ℕ) → length (pairs_of words) ≡ min (get_or words 0 0) most_pairs
unfolding pairs_of
as_many words = length_in (min (get_or words 0 0) most_pairs) (drop 1 words)

-- ---- one pair after the other
pub pair_drop : (k : ℕ) (words : List ℕ) (a : ℕ) → pair_at (drop k words) a ≡ pair_at words (k + a)
pair_drop k words a =
    let p : k + (a + 1) ≡ k + a + 1 = omega arith in
    rw (get_or-drop k words a 0, get_or-drop k words (a + 1) 0, p)

-- the first pairs are what the chunks of two words mean
pub pairs_mean : (n : ℕ) (words : List ℕ) → map pair_in (first_chunks 2 n words) ≡ pairs_in n words
unfolding pairs_in
pairs_mean zero words = refl
pairs_mean (suc n) words = rw (get_or-take 2 words 0 0 (omega arith), get_or-take 2 words 1 0 (omega arith), pairs_mean n (drop 2 words))

pub pairs_first : (table : List ℕ) (n : ℕ) → length table ≡ pairs_length → n ≡ min (get_or table 0 0) most_pairs
    → map pair_in (take n (first_chunks 2 (length (take 32 (drop 1 table)) / 2) (take 32 (drop 1 table)))) ≡ pairs_of table
unfolding pairs_of
pairs_first table n long e =
    let all : take 32 (drop 1 table) ≡ drop 1 table = take_all 32 (drop 1 table) (simp length-drop (omega arith)) in
    let many : length (drop 1 table) / 2 ≡ 16 = omega (arith, length-drop 1 table) in
    rw (all, many, first_of 2 n 16 (drop 1 table) (omega (arith, e)), pairs_mean n (drop 1 table), e)

-- the first that has an address on one side
abbrev pub has : ℕ → ℕ → List ℕ → Bool
has from address words = eqb (side from (pair_in words)) address

pub look_up_is : (from to address : ℕ) (ps : List (List ℕ)) → look_up from to (map pair_in ps) address ≡ option_map (λ p. side to (pair_in p)) (find (has from address) ps)
unfolding look_up
look_up_is from to address [] = refl
look_up_is from to address (p ∷ ps) = go (has from address p) (find (has from address) ps) (look_up_is from to address ps)
  where
    go : (b : Bool) {o : Option ℕ} (f : Option (List ℕ)) → o ≡ option_map (λ p. side to (pair_in p)) f
        → cond b (Some (side to (pair_in p))) o ≡ option_map (λ p. side to (pair_in p)) (cond b (Some p) f)
    go true f e = refl
    go false f e = e

pub look_up_found : (from to address : ℕ) (ps : List (List ℕ)) {pairs : List AddressPair} {o : Option (List ℕ)} → map pair_in ps ≡ pairs → o ≡ find (has from address) ps
    → option_map (λ p. side to (pair_in p)) o ≡ look_up from to pairs address
look_up_found from to address ps m e = rw (← m, e) (sym (look_up_is from to address ps))

-- ---- whether it stands there
pub missing : (from to : ℕ) (ps : List AddressPair) (address : ℕ) → None ≡ look_up from to ps address → false ≡ stands from ps address
unfolding look_up stands
missing from to [] address e = refl
missing from to (p ∷ ps) address e = go (eqb (side from p) address) e (missing from to ps address)
  where
    go : (b : Bool) → None ≡ cond b (Some (side to p)) (look_up from to ps address) → (None ≡ look_up from to ps address → false ≡ stands from ps address)
        → false ≡ (b || stands from ps address)
    go true e later = cc
    go false e later = later e

pub given : (from to : ℕ) (ps : List AddressPair) (address o : ℕ) → Some o ≡ look_up from to ps address → true ≡ stands from ps address
unfolding look_up stands
given from to [] address o e = cc
given from to (p ∷ ps) address o e = go (eqb (side from p) address) e (given from to ps address o)
  where
    go : (b : Bool) → Some o ≡ cond b (Some (side to p)) (look_up from to ps address) → (Some o ≡ look_up from to ps address → true ≡ stands from ps address)
        → true ≡ (b || stands from ps address)
    go true e later = refl
    go false e later = later e

pub given_if : (from to : ℕ) (ps : List AddressPair) (address : ℕ) → is_some (look_up from to ps address) ≡ stands from ps address
given_if from to ps address = go (look_up from to ps address) refl
  where
    go : (o : Option ℕ) → o ≡ look_up from to ps address → is_some o ≡ stands from ps address
    go None e = missing from to ps address e
    go (Some a) e = given from to ps address a e
