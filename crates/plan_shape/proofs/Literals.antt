-- The literals of a plan: a test of all below n taken apart and put together, a pair's words at their places in the lists, a path cut where a unit stands. Assumes nothing.
use mathlib.Core.Path.{◌≡◌, refl, sym, ap, ◌∙◌}
use mathlib.Core.Bool.{Bool, true, ◌&&◌}
use mathlib.Core.List.{List, [], ◌∷◌, ◌++◌}
use Prim.Native.Nat.{ℕ, zero, suc, ◌+◌, ◌*◌, ◌≤◌, ◌<◌}
use native.Mathlib.Decide.{ℕ_discrete}
use native.Mathlib.Omega.{arith}
use borrow.Author.Tests.{leb-true, le-leb, eq-eqb, ne_eqb}
use lib.Dec.{leb}
use lib.ListN.{length, get_or, take, drop, length-take}
use lib.Seq.{get_or-take, get_or-drop}
use Rattle.storage.specs.Blocks.{block_at}
use Rattle.checks.proofs.Tests.{both}
use Rattle.identifier.specs.Identifier.{is_pgn}
use Rattle.entries.specs.Entries.{every}
use Rattle.name_entries.specs.NameEntries.{NameEntry}
use Rattle.filter.specs.Filter.{meant, filter_of}
use Rattle.plan_shape.specs.Plan.{Plan, plan_of, below, pair_in_range, numbers_in_range, in_range, block_of, plan_block_size, Crossing, Unused, NoUnitTwice, Permits, EachPermits}
use Rattle.plan_shape.specs.Literals.{InPlan, Literals}
use Rattle.plan_shape.proofs.Ranges.{below_at}

-- ---- all of them
below_all : (test : ℕ → Bool) (n : ℕ) → ((i : ℕ) → i < n → test i ≡ true) → below test n ≡ true
unfolding below
below_all test zero f = refl
below_all test (suc n) f = rw (below_all test n (λ i h. f i (omega arith)), f n (omega arith))

every_at : (test : ℕ → Bool) → test 0 ≡ true → (xs : List ℕ) → every test xs ≡ true → (j : ℕ) → test (get_or xs j 0) ≡ true
unfolding every
every_at test t [] e j = t
every_at test t (x ∷ xs) e zero = (both (test x) (every test xs) e).0
every_at test t (x ∷ xs) e (suc j) = every_at test t xs (both (test x) (every test xs) e).1 j

every_all : (test : ℕ → Bool) (xs : List ℕ) → ((j : ℕ) → j < length xs → test (get_or xs j 0) ≡ true) → every test xs ≡ true
unfolding every
every_all test [] f = refl
every_all test (x ∷ xs) f = rw (f 0 (omega arith), every_all test xs (λ j h. f (suc j) (omega arith)))

-- ---- a pair's words
-- the entries of a pair that is not cleared
entries_meant : (m : ℕ) (es : List ℕ) (ns : List NameEntry) (ss : List ℕ) → (m ≡ 0 → ⊥) → (meant m es ns ss).entries ≡ es
unfolding meant
entries_meant zero es ns ss n = absurd (n refl)
entries_meant (suc zero) es ns ss n = refl
entries_meant (suc (suc zero)) es ns ss n = refl
entries_meant (suc (suc (suc zero))) es ns ss n = refl
entries_meant (suc (suc (suc (suc m)))) es ns ss n = refl

-- a number of a list's front, by its place
front_at : (words : List ℕ) (n j : ℕ) → j < n → n ≤ 32 → get_or (take n (take 32 (drop 2 words))) j 0 ≡ get_or words (2 + j) 0
front_at words n j h l =
    let short : j < 32 = omega arith in
    get_or-take n (take 32 (drop 2 words)) j 0 h ∙ get_or-take 32 (drop 2 words) j 0 short ∙ get_or-drop 2 words j 0

pgn_0 : is_pgn 0 ≡ true
unfolding is_pgn
pgn_0 = refl

-- what pair_in_range says of the words of a pair
pub record PairWords (words : List ℕ) : Type 0 where
  pub mode : get_or words 0 0 ≤ 2
  pub count : (get_or words 0 0 ≡ 0 → ⊥) → get_or words 1 0 ≤ 32
  pub listed : (get_or words 0 0 ≡ 0 → ⊥) → (j : ℕ) → j < get_or words 1 0 → is_pgn (get_or words (2 + j) 0) ≡ true

module _ (words : List ℕ) where
  -- not cleared: count and list
  rest : pair_in_range words ≡ true → (get_or words 0 0 ≡ 0 → ⊥) → (leb (get_or words 1 0) 32 ≡ true) × (every is_pgn (filter_of words).entries ≡ true)
  unfolding pair_in_range
  rest e n =
      let b = (both (leb (get_or words 0 0) 2) _ e).1 in
      both (leb (get_or words 1 0) 32) (every is_pgn (filter_of words).entries) (rw (ne_eqb (get_or words 0 0) 0 n) at b)

  in_words : pair_in_range words ≡ true → PairWords words
  unfolding pair_in_range filter_of
  in_words e = record {
    mode = leb-true (get_or words 0 0) 2 (both (leb (get_or words 0 0) 2) _ e).0;
    count = λ n. leb-true (get_or words 1 0) 32 (rest e n).0;
    listed = λ n j h.
        let l : get_or words 1 0 ≤ 32 = leb-true (get_or words 1 0) 32 (rest e n).0 in
        let all = rw (entries_meant (get_or words 0 0) (take (get_or words 1 0) (take 32 (drop 2 words))) _ _ n) at (rest e n).1 in
        rw (front_at words (get_or words 1 0) j h l) at (every_at is_pgn pgn_0 (take (get_or words 1 0) (take 32 (drop 2 words))) all j);
  }

  of_words : PairWords words → pair_in_range words ≡ true
  unfolding pair_in_range filter_of
  of_words w = elim (ℕ_discrete (get_or words 0 0) 0) [
    | yes e ↦ rw (le-leb (get_or words 0 0) 2 w.mode, eq-eqb (get_or words 0 0) 0 e)
    | no n ↦ rw (le-leb (get_or words 0 0) 2 w.mode, ne_eqb (get_or words 0 0) 0 n, le-leb (get_or words 1 0) 32 (w.count n), entries_meant (get_or words 0 0) (take (get_or words 1 0) (take 32 (drop 2 words))) _ _ n) (front n)
  ]
    where
      front : (get_or words 0 0 ≡ 0 → ⊥) → every is_pgn (take (get_or words 1 0) (take 32 (drop 2 words))) ≡ true
      front n = every_all is_pgn (take (get_or words 1 0) (take 32 (drop 2 words))) (λ j h.
          let h' : j < get_or words 1 0 = omega (arith, length-take (get_or words 1 0) (take 32 (drop 2 words))) in
          rw (front_at words (get_or words 1 0) j h' (w.count n)) (w.listed n j h'))

module _ (lists : List ℕ) (i : ℕ) where
  word : (k : ℕ) → k < plan_block_size → get_or (block_of lists i) k 0 ≡ get_or lists (34 * i + k) 0
  unfolding block_at
  word k h =
      let at : 0 + plan_block_size * i + k ≡ 34 * i + k = omega arith in
      get_or-take plan_block_size (drop (0 + plan_block_size * i) lists) k 0 h ∙ get_or-drop (0 + plan_block_size * i) lists k 0 ∙ ap (λ (n : ℕ). get_or lists n 0) at

-- ---- the whole plan
first_word : (lists : List ℕ) (i : ℕ) → get_or (block_of lists i) 0 0 ≡ get_or lists (34 * i) 0
first_word lists i = let at : 34 * i + 0 ≡ 34 * i = omega arith in word lists i 0 (omega arith) ∙ ap (λ (n : ℕ). get_or lists n 0) at

-- a pair that is not cleared, by its word in the lists
not_cleared : (lists : List ℕ) (i : ℕ) → (get_or lists (34 * i) 0 ≡ 0 → ⊥) → get_or (block_of lists i) 0 0 ≡ 0 → ⊥
not_cleared lists i n e = n (sym (first_word lists i) ∙ e)

not_cleared' : (lists : List ℕ) (i : ℕ) → (get_or (block_of lists i) 0 0 ≡ 0 → ⊥) → get_or lists (34 * i) 0 ≡ 0 → ⊥
not_cleared' lists i n e = n (first_word lists i ∙ e)

module _ (segments units first pgn : ℕ) (ports lists : List ℕ) where
  to_words : in_range segments (plan_of units ports lists) first pgn ≡ true → InPlan segments units first pgn ports lists
  unfolding in_range numbers_in_range is_pgn
  to_words e =
      let onPort : ℕ → Bool = λ i. leb (get_or ports i 0) segments in
      let in_list : ℕ → Bool = λ i. pair_in_range (block_of lists i) in
      let a = both (numbers_in_range segments units first pgn) (below onPort (8 * units) && below in_list (56 * units)) e in
      let b = both (below onPort (8 * units)) (below in_list (56 * units)) a.1 in
      let n1 = both (leb segments 16) _ a.0 in
      let n2 = both (leb units 16) _ n1.1 in
      let n3 = both (leb 1 first) _ n2.1 in
      let n4 = both (leb first segments) (is_pgn pgn) n3.1 in
      let pair : (i : ℕ) → i < 56 * units → PairWords (block_of lists i) = λ i h. in_words (block_of lists i) (below_at in_list (56 * units) i h b.1) in
      record {
        most_segments_lem = leb-true segments 16 n1.0;
        most_units_lem = leb-true units 16 n2.0;
        from_1 = leb-true 1 first n3.0;
        of_plan = leb-true first segments n4.0;
        asked = n4.1;
        segment = λ i h. leb-true (get_or ports i 0) segments (below_at onPort (8 * units) i h b.0);
        mode = λ i h. rw (first_word lists i) at (pair i h).mode;
        count = λ i h n. rw (word lists i 1 (omega arith)) at ((pair i h).count (not_cleared lists i n));
        listed = λ i j h n l.
            let few : get_or lists (34 * i + 1) 0 ≤ 32 = rw (word lists i 1 (omega arith)) at ((pair i h).count (not_cleared lists i n)) in
            let within : 2 + j < plan_block_size = omega arith in
            rw (word lists i (2 + j) within) at ((pair i h).listed (not_cleared lists i n) j (rw (word lists i 1 (omega arith)) l));
      }

  of_plan : InPlan segments units first pgn ports lists → in_range segments (plan_of units ports lists) first pgn ≡ true
  unfolding in_range numbers_in_range is_pgn
  of_plan w =
      rw (
        le-leb segments 16 w.most_segments_lem,
        le-leb units 16 w.most_units_lem,
        le-leb 1 first w.from_1,
        le-leb first segments w.of_plan,
        w.asked,
        below_all (λ i. leb (get_or ports i 0) segments) (8 * units) (λ i h. le-leb (get_or ports i 0) segments (w.segment i h)),
      )
      (below_all (λ i. pair_in_range (block_of lists i)) (56 * units) (λ i h. of_words (block_of lists i) (pair i h)))
    where
      pair : (i : ℕ) → i < 56 * units → PairWords (block_of lists i)
      pair i h = record {
        mode = rw (first_word lists i) (w.mode i h);
        count = λ n. rw (word lists i 1 (omega arith)) (w.count i h (not_cleared' lists i n));
        listed = λ n j l.
            let l' : j < get_or lists (34 * i + 1) 0 = rw (word lists i 1 (omega arith)) at l in
            let few = w.count i h (not_cleared' lists i n) in
            let within : 2 + j < plan_block_size = omega arith in
            rw (word lists i (2 + j) within) (w.listed i j h (not_cleared' lists i n) l');
      }

-- ---- paths
each_of : (plan : Plan) (pgn : ℕ) (cs before after : List Crossing) (c : Crossing) → EachPermits plan pgn cs → cs ≡ before ++ c ∷ after → Permits plan pgn c
unfolding EachPermits
each_of plan pgn cs [] after c p e = (rw e at p).0
each_of plan pgn cs (b ∷ before) after c p e = each_of plan pgn (before ++ c ∷ after) before after c (rw e at p).1 refl

all_of : (plan : Plan) (pgn : ℕ) (cs : List Crossing) → ((before after : List Crossing) (c : Crossing) → cs ≡ before ++ c ∷ after → Permits plan pgn c) → EachPermits plan pgn cs
unfolding EachPermits
all_of plan pgn [] f = tt
all_of plan pgn (c ∷ cs) f = (f [] cs c refl, all_of plan pgn cs (λ before after d e. f (c ∷ before) after d (ap (λ (l : List Crossing). c ∷ l) e)))

apart : (unit : ℕ) (cs before after : List Crossing) (d : Crossing) → Unused unit cs → cs ≡ before ++ d ∷ after → d.unit ≡ unit → ⊥
unfolding Unused
apart unit cs [] after d u e s = (rw e at u).0 s
apart unit cs (b ∷ before) after d u e s = apart unit (before ++ d ∷ after) before after d (rw e at u).1 refl s

unused : (unit : ℕ) (cs : List Crossing) → ((before after : List Crossing) (d : Crossing) → cs ≡ before ++ d ∷ after → d.unit ≡ unit → ⊥) → Unused unit cs
unfolding Unused
unused unit [] f = tt
unused unit (c ∷ cs) f = (f [] cs c refl, unused unit cs (λ before after d e. f (c ∷ before) after d (ap (λ (l : List Crossing). c ∷ l) e)))

once_of : (cs before between after : List Crossing) (c d : Crossing) → NoUnitTwice cs → cs ≡ before ++ c ∷ between ++ d ∷ after → c.unit ≡ d.unit → ⊥
unfolding NoUnitTwice
once_of cs [] between after c d p e s = apart c.unit (between ++ d ∷ after) between after d (rw e at p).0 refl (sym s)
once_of cs (b ∷ before) between after c d p e s = once_of (before ++ c ∷ between ++ d ∷ after) before between after c d (rw e at p).1 refl s

none_twice : (cs : List Crossing) → ((before between after : List Crossing) (c d : Crossing) → cs ≡ before ++ c ∷ between ++ d ∷ after → c.unit ≡ d.unit → ⊥) → NoUnitTwice cs
unfolding NoUnitTwice
none_twice [] f = tt
none_twice (c ∷ cs) f = (
  unused c.unit cs (λ between after d e s. f [] between after c d (ap (λ (l : List Crossing). c ∷ l) e) (sym s)),
  none_twice cs (λ before between after x y e. f (c ∷ before) between after x y (ap (λ (l : List Crossing). c ∷ l) e)),
)

pub literals : Literals
literals = record {
  range = λ segments units first pgn ports lists. (to_words segments units first pgn ports lists, of_plan segments units first pgn ports lists);
  each = λ plan pgn cs. (λ p before after c e. each_of plan pgn cs before after c p e, all_of plan pgn cs);
  once = λ cs. (λ p before between after c d e. once_of cs before between after c d p e, none_twice cs);
}
