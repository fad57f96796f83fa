-- A test of each number below n, one after the other; and what a plan whose numbers are in range has. Assumes nothing.
use mathlib.Core.Path.{◌≡◌, refl, ap, ◌∙◌}
use mathlib.Core.Bool.{Bool, true, false, ◌&&◌}
use mathlib.Core.List.{List, [], ◌∷◌}
use Prim.Native.Nat.{ℕ, zero, suc, ◌+◌, ◌*◌, ◌/◌, ◌%◌, ◌≤◌, ◌<◌}
use native.Mathlib.Decide.{ℕ_discrete}
use native.Mathlib.Numerals.{add-one}
use native.Mathlib.Omega.{arith}
use borrow.Author.Tests.{leb-true}
use lib.ListN.{length, get_or, take, drop}
use lib.Bits.{bit_or, or_add_and, and_le_l, and_le_r}
use lib.Seq.{take-add, take-length, length-take-le}
use Rattle.std.proofs.lemmas.List.{drop-drop}
use Rattle.storage.specs.Blocks.{block_at}
use lib.Dec.{leb}
use Rattle.checks.proofs.Tests.{both}
use Rattle.identifier.specs.Identifier.{is_pgn}
use Rattle.plan_shape.specs.Plan.{Plan, plan_of, below, numbers_in_range, in_range, pair_in_range, block_of, plan_block_size, most_segments, most_units, port_count, pairs_of_unit, ports_length, lists_length}
use Rattle.std.specs.Prelude.{fold}
use Rattle.std.specs.List.{list_all}
use Rattle.std.specs.Simd.{first_chunks}
use Rattle.std.proofs.lemmas.List.Folds.{list_all_more, list_all-append}

-- ---- below n
pub below_none : (test : ℕ → Bool) → below test 0 ≡ true
unfolding below
below_none test = refl

pub below_more : (test : ℕ → Bool) (n : ℕ) → below test n ≡ true → test n ≡ true → below test (n + 1) ≡ true
unfolding below
below_more test n h t = rw (add-one n, below, h, t)

and_false : (a : Bool) → (a && false) ≡ false
and_false true = refl
and_false false = refl

pub below_not : (test : ℕ → Bool) (n i : ℕ) → i < n → test i ≡ false → below test n ≡ false
unfolding below
below_not test zero i h t = absurd (omega arith)
below_not test (suc n) i h t = elim (ℕ_discrete i n) [
  | yes e ↦ rw ((rw e at t), and_false (below test n))
  | no ne ↦ rw (below_not test n i (omega arith) t)
]

pub below_at : (test : ℕ → Bool) (n i : ℕ) → i < n → below test n ≡ true → test i ≡ true
unfolding below
below_at test zero i h t = absurd (omega arith)
below_at test (suc n) i h t =
    let p = both (below test n) (test n) t in
    elim (ℕ_discrete i n) [
      | yes e ↦ rw e p.1
      | no ne ↦ below_at test n i (omega arith) p.0
    ]

-- ---- a test of each element of a list
pub below_list : {X : Type 0} (p : X → Bool) (xs : List X) (d : X) (n : ℕ) → n ≤ length xs → list_all p (take n xs) ≡ below (λ i. p (get_or xs i d)) n
unfolding below
below_list p xs d zero h = refl
below_list p xs d (suc n) h = rw (← add-one n, list_all_more p xs n d (omega arith), below_list p xs d n (omega arith))

below_same : (p q : ℕ → Bool) (n : ℕ) → ((i : ℕ) → i < n → p i ≡ q i) → below p n ≡ below q n
unfolding below
below_same p q zero same = refl
below_same p q (suc n) same = rw (same n (omega arith), below_same p q n (λ i h. same i (omega arith)))

-- ---- chunks
chunk_at : {X : Type 0} (n k : ℕ) (xs : List X) (i : ℕ) → i < k → get_or (first_chunks n k xs) i [] ≡ take n (drop (n * i) xs)
chunk_at n zero xs i h = absurd (omega arith)
chunk_at n (suc k) xs zero h = let e : n * 0 ≡ 0 = omega arith in rw e
chunk_at n (suc k) xs (suc i) h = let e : n * suc i ≡ n + n * i = omega arith in rw (e, chunk_at n k (drop n xs) i (omega arith), drop-drop (n * i) n xs)

length_chunks : {X : Type 0} (n k : ℕ) (xs : List X) → length (first_chunks n k xs) ≡ k
length_chunks n zero xs = refl
length_chunks n (suc k) xs = ap suc (length_chunks n k (drop n xs))

-- a test of the elements of each chunk
chunks_all : {X : Type 0} (p : X → Bool) (n k : ℕ) (xs : List X) → list_all (list_all p) (first_chunks n k xs) ≡ list_all p (take (k * n) xs)
chunks_all p n zero xs = let e : 0 * n ≡ 0 = omega arith in rw e
chunks_all p n (suc k) xs =
    let e : suc k * n ≡ n + k * n = omega arith in
    rw (e, take-add n (k * n) xs, list_all-append p (take n xs) (take (k * n) (drop n xs)), chunks_all p n k (drop n xs))

pub parts : (pairs : List (List ℕ)) → length pairs % 8 ≡ 0 → list_all (list_all pair_in_range) (first_chunks 8 (length pairs / 8) pairs) ≡ list_all pair_in_range pairs
parts pairs h = let e : length pairs / 8 * 8 ≡ length pairs = omega arith in rw (chunks_all pair_in_range 8 (length pairs / 8) pairs, e, take-length pairs)

-- the pairs that are lent
pair_chunk : (lists : List ℕ) (k i : ℕ) → i < k → get_or (first_chunks plan_block_size k lists) i [] ≡ block_of lists i
unfolding block_at
pair_chunk lists k i l = let start : 0 + plan_block_size * i ≡ plan_block_size * i = omega arith in rw start (chunk_at plan_block_size k lists i l)

pub pairs_all : (lists : List ℕ) (k n : ℕ) → n ≤ k → list_all pair_in_range (take n (first_chunks plan_block_size k lists)) ≡ below (λ i. pair_in_range (block_of lists i)) n
pairs_all lists k n h =
    below_list pair_in_range (first_chunks plan_block_size k lists) [] n (rw (length_chunks plan_block_size k lists) h)
    ∙ below_same (λ i. pair_in_range (get_or (first_chunks plan_block_size k lists) i [])) (λ i. pair_in_range (block_of lists i)) n (λ i l. ap pair_in_range (pair_chunk lists k i (omega arith)))

-- ---- cleared pairs
-- a pair whose mode is 0 is in range
cleared : (words : List ℕ) → get_or words 0 0 ≡ 0 → pair_in_range words ≡ true
unfolding pair_in_range
cleared words e = rw e

or_none : (a b : ℕ) → bit_or a b ≡ 0 → (a ≡ 0) × (b ≡ 0)
or_none a b e = (omega (arith, or_add_and a b, and_le_r a b), omega (arith, or_add_and a b, and_le_l a b))

all_from : (modes : ℕ) (pairs : List (List ℕ)) → fold (λ m words. bit_or m (get_or words 0 0)) modes pairs ≡ 0 → (modes ≡ 0) × (list_all pair_in_range pairs ≡ true)
all_from modes [] e = (e, refl)
all_from modes (p ∷ ps) e =
    let later = all_from (bit_or modes (get_or p 0 0)) ps e in
    let here = or_none modes (get_or p 0 0) later.0 in
    (here.0, rw (cleared p here.1) later.1)

pub all_cleared : (pairs : List (List ℕ)) → fold (λ m words. bit_or m (get_or words 0 0)) 0 pairs ≡ 0 → list_all pair_in_range pairs ≡ true
all_cleared pairs e = (all_from 0 pairs e).1

-- ---- the numbers in range
pub record Numbers (segments units first pgn : ℕ) : Type 0 where
  pub segmented : segments ≤ most_segments
  pub few : units ≤ most_units
  pub least : 1 ≤ first
  pub most : first ≤ segments

pub numbers : (segments units first pgn : ℕ) → numbers_in_range segments units first pgn ≡ true → Numbers segments units first pgn
unfolding numbers_in_range
numbers segments units first pgn e =
    let a = both (leb segments most_segments) (leb units most_units && (leb 1 first && (leb first segments && is_pgn pgn))) e in
    let b = both (leb units most_units) (leb 1 first && (leb first segments && is_pgn pgn)) a.1 in
    let c = both (leb 1 first) (leb first segments && is_pgn pgn) b.1 in
    let d = both (leb first segments) (is_pgn pgn) c.1 in
    record {
      segmented = leb-true segments most_segments a.0;
      few = leb-true units most_units b.0;
      least = leb-true 1 first c.0;
      most = leb-true first segments d.0;
    }

-- what a plan in range has
pub record Ranged (segments : ℕ) (plan : Plan) (first : ℕ) : Type 0 where
  pub segmented : segments ≤ most_segments
  pub few : plan.units ≤ most_units
  pub least : 1 ≤ first
  pub most : first ≤ segments
  pub ports : (i : ℕ) → i < port_count * plan.units → get_or plan.ports i 0 ≤ segments

pub ranged : (segments : ℕ) (plan : Plan) (first pgn : ℕ) → in_range segments plan first pgn ≡ true → Ranged segments plan first
unfolding in_range
ranged segments plan first pgn e =
    let onPort : ℕ → Bool = λ i. leb (get_or plan.ports i 0) segments in
    let in_lists : ℕ → Bool = λ i. pair_in_range (block_of plan.lists i) in
    let a = both (numbers_in_range segments plan.units first pgn) (below onPort (port_count * plan.units) && below in_lists (pairs_of_unit * plan.units)) e in
    let b = both (below onPort (port_count * plan.units)) (below in_lists (pairs_of_unit * plan.units)) a.1 in
    let N = numbers segments plan.units first pgn a.0 in
    record {
      segmented = N.segmented;
      few = N.few;
      least = N.least;
      most = N.most;
      ports = λ i h. leb-true (get_or plan.ports i 0) segments (below_at onPort (port_count * plan.units) i h b.0);
    }

-- ---- by the parts that are lent
-- the pairs of the units in use
abbrev pub pairs_in_use : ℕ → List ℕ → List (List ℕ)
pairs_in_use units lists = take (pairs_of_unit * units) (first_chunks plan_block_size (length lists / plan_block_size) lists)

pub length_pairs : (units : ℕ) (lists : List ℕ) → units ≤ most_units → length lists ≡ lists_length → length (pairs_in_use units lists) ≡ pairs_of_unit * units
length_pairs units lists few L =
    length-take-le (pairs_of_unit * units) (first_chunks plan_block_size (length lists / plan_block_size) lists) (rw (length_chunks plan_block_size (length lists / plan_block_size) lists) (omega (arith, L)))

pub in_parts : (segments units first pgn : ℕ) (ports lists : List ℕ) → units ≤ most_units → length ports ≡ ports_length → length lists ≡ lists_length
    → in_range segments (plan_of units ports lists) first pgn
    ≡ (numbers_in_range segments units first pgn && (list_all (λ segment. leb segment segments) (take (port_count * units) ports)
    && list_all (list_all pair_in_range) (first_chunks 8 (length (pairs_in_use units lists) / 8) (pairs_in_use units lists))))
unfolding in_range
in_parts segments units first pgn ports lists few P L =
    let within : port_count * units ≤ length ports = omega (arith, P) in
    let within' : pairs_of_unit * units ≤ length lists / plan_block_size = omega (arith, L) in
    let whole : length (pairs_in_use units lists) % 8 ≡ 0 = omega (arith, length_pairs units lists few L) in
    rw (
      below_list (λ segment. leb segment segments) ports 0 (port_count * units) within,
      parts (pairs_in_use units lists) whole,
      pairs_all lists (length lists / plan_block_size) (pairs_of_unit * units) within',
    )
