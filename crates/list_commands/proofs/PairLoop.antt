-- The pairs from a port: one after the other, asked or changed, and the law that only the named ones change. Assumes nothing.
use mathlib.Core.Path.{◌≡◌, refl, sym, ap, ◌∙◌}
use mathlib.Core.Bool.{Bool, true, false, ◌||◌}
use mathlib.Core.List.{List, [], ◌∷◌, ◌++◌}
use Prim.Native.Nat.{ℕ, zero, suc, ◌+◌, ◌-◌, ◌≤◌, ◌<◌}
use native.Mathlib.Decide.{ℕ_discrete, dec_lt}
use native.Mathlib.Numerals.{add-one}
use native.Mathlib.Omega.{arith}
use borrow.Author.Tests.{eq-eqb, ne_eqb, lt-ltb, le-ltb}
use lib.ListN.{length, get_or, set, take, drop, length-drop, take-append-drop}
use lib.Seq.{length-take-le, get_or-append-add, get_or-drop}
use lib.Dec.{eqb}
use Rattle.storage.proofs.Blocks.{length_blocks}
use Rattle.filter.specs.Filter.{Filter, filter_of, clear}
use Rattle.filter_commands.specs.declared.pairs.Change.{Change}
use Rattle.unit.specs.Ports.{each}
use Rattle.unit.specs.Count.{pair_count}
use Rattle.unit.specs.Model.{Model, model_of, pairs_from, record_length, with_rest, with_pairs}
use Rattle.list_commands.specs.Commands.{first_pair, names, any_below, holds_at, any_named, change_named, change_at, Beside, list_refusal, commanded}
use Rattle.filter_commands.specs.Pairs.{change_of}
use Rattle.record.specs.Steps.{PairChanging}
use Rattle.list_commands.specs.Steps.{Naming, PairsChanging, Commanding}
use Rattle.unit.proofs.Count.{row_below, pair_below}
use Rattle.unit.proofs.Ports.{each_later, each_step}
use Rattle.filter.specs.Filter.{block_size as filter_length}

abbrev pub pairs_in : ℕ → List ℕ → List Filter
pairs_in ports words = (model_of ports words).rest.pairs

pub pairs_long : (ports : ℕ) (words : List ℕ) → length (pairs_in ports words) ≡ pair_count ports
unfolding model_of
pairs_long ports words = length_blocks filter_of filter_length (pairs_from ports) (pair_count ports) words

-- ---- which pairs are named
named_lower : (from to k : ℕ) → (to ≡ 15 → ⊥) → k < from - 1 → names from to k ≡ eqb to (k + 1)
unfolding names
named_lower from to k h l = rw (ne_eqb to 15 h, lt-ltb k (from - 1) l, add-one k)

named_upper : (from to k : ℕ) → (to ≡ 15 → ⊥) → from - 1 ≤ k → names from to k ≡ eqb to (k + 2)
unfolding names
named_upper from to k h l =
    let e : k + 2 ≡ suc (suc k) = omega arith in
    rw (ne_eqb to 15 h, le-ltb k (from - 1) l, e)

not_named : (from to k : ℕ) → (to ≡ 15 → ⊥) → (k < from - 1 → to ≡ k + 1 → ⊥) → (from - 1 ≤ k → to ≡ k + 2 → ⊥) → names from to k ≡ false
not_named from to k h lower upper =
    elim (dec_lt k (from - 1)) [
      | yes l ↦ named_lower from to k h l ∙ ne_eqb to (k + 1) (lower l)
      | no nl ↦ let l : from - 1 ≤ k = omega arith in named_upper from to k h l ∙ ne_eqb to (k + 2) (upper l)
    ]

module _ {ports : ℕ} (from to : ℕ) {row : ℕ} (r : row ≡ first_pair ports from) (low : 1 ≤ from) (high : from ≤ ports) where
  pub naming_all : to ≡ 15 → Naming ports from to row (row + (ports - 1))
  unfolding names
  naming_all e = record {
    low = low;
    high = high;
    least = omega arith;
    forward = omega arith;
    most = omega arith;
    before = λ k l. absurd (omega arith);
    inside = λ k _ _. rw (eq-eqb to 15 e);
    behind = λ k l m. absurd (omega arith);
  }

  module _ (h : to ≡ 15 → ⊥) where
    pub naming_lower : 0 < to → to < from → Naming ports from to (row + (to - 1)) (row + to)
    naming_lower l n = record {
      low = low;
      high = high;
      least = omega arith;
      forward = omega arith;
      most = omega arith;
      before = λ k b. not_named from to k h (λ m e. omega arith) (λ m e. omega arith);
      inside = λ k a b. named_lower from to k h (omega arith) ∙ eq-eqb to (k + 1) (omega arith);
      behind = λ k a b. not_named from to k h (λ m e. omega arith) (λ m e. omega arith);
    }

    pub naming_upper : from < to → to ≤ ports → Naming ports from to (row + (to - 2)) (row + (to - 1))
    naming_upper l n = record {
      low = low;
      high = high;
      least = omega arith;
      forward = omega arith;
      most = omega arith;
      before = λ k b. not_named from to k h (λ m e. omega arith) (λ m e. omega arith);
      inside = λ k a b. named_upper from to k h (omega arith) ∙ eq-eqb to (k + 2) (omega arith);
      behind = λ k a b. not_named from to k h (λ m e. omega arith) (λ m e. omega arith);
    }

    pub naming_none : (1 ≤ to → to ≤ ports → to ≡ from) → Naming ports from to row row
    naming_none other = record {
      low = low;
      high = high;
      least = omega arith;
      forward = omega arith;
      most = omega arith;
      before = λ k l. absurd (omega arith);
      inside = λ k a b. absurd (omega arith);
      behind = λ k a b. not_named from to k h (λ m e. omega (arith, other (omega arith) (omega arith))) (λ m e. omega (arith, other (omega arith) (omega arith)));
    }

-- ---- asking
module _ (test : ℕ → Bool) where
  or_true : (b : Bool) → true ≡ b || true
  or_true true = refl
  or_true false = refl

  -- one that holds is enough
  pub any_found : (n k : ℕ) → k < n → test k ≡ true → true ≡ any_below test n
  unfolding any_below
  any_found zero k l h = absurd (omega arith)
  any_found (suc n) k l h =
      elim (ℕ_discrete k n) [
        | yes e ↦ rw (← e, h) (or_true (any_below test k))
        | no ne ↦ rw (← (any_found n k (omega arith) h))
      ]

  -- those of which none holds may be passed over
  pub any_none : (m n : ℕ) → m ≤ n → ((k : ℕ) → m ≤ k → k < n → test k ≡ false) → false ≡ any_below test m → false ≡ any_below test n
  unfolding any_below
  any_none m zero l h e = let z : m ≡ 0 = omega arith in rw z at e
  any_none m (suc n) l h e =
      elim (ℕ_discrete m (suc n)) [
        | yes z ↦ rw z at e
        | no nz ↦ rw (← (any_none m n (omega arith) (λ k a b. h k a (omega arith)) e), h n (omega arith) (omega arith))
      ]

-- where the loop stands at pair i: none that is named and stands before it had the answer yes
pub record Asked (ports first end : ℕ) (test : Filter → Bool) (pairs : List Filter) (i : ℕ) : Type 0 where
  pub none : (from to : ℕ) → Naming ports from to first end → false ≡ any_below (holds_at ports test from to pairs) (i - first_pair ports from)

module _ {ports first end : ℕ} {test : Filter → Bool} {pairs : List Filter} where
  pub ask_start : Asked ports first end test pairs first
  unfolding any_below
  ask_start = record { none = λ from to N. any_none (holds_at ports test from to pairs) 0 (first - first_pair ports from) (omega arith) (λ k _ l. rw (N.before k (omega arith))) refl }

  module _ {i : ℕ} (A : Asked ports first end test pairs i) (a : first ≤ i) (b : i < end) where
    pub ask_found : test (get_or pairs i clear) ≡ true → (from to : ℕ) → Naming ports from to first end → true ≡ any_named ports (ports - 1) test from to pairs
    unfolding any_named
    ask_found t from to N =
        let k = i - first_pair ports from in
        let e : first_pair ports from + k ≡ i = omega (arith, N.least) in
        any_found (holds_at ports test from to pairs) (ports - 1) k (omega (arith, N.most)) (rw (N.inside k (omega arith) (omega arith), e) t)

    pub ask_more : test (get_or pairs i clear) ≡ false → Asked ports first end test pairs (i + 1)
    unfolding any_below
    ask_more t = record {
      none = λ from to N.
          let k = i - first_pair ports from in
          let e : first_pair ports from + k ≡ i = omega (arith, N.least) in
          let s : i + 1 - first_pair ports from ≡ suc k = omega (arith, N.least) in
          rw (s, ← (A.none from to N), N.inside k (omega arith) (omega arith), e) (sym t);
    }

  pub ask_done : Asked ports first end test pairs end → (from to : ℕ) → Naming ports from to first end → false ≡ any_named ports (ports - 1) test from to pairs
  unfolding any_named
  ask_done A from to N = any_none (holds_at ports test from to pairs) (end - first_pair ports from) (ports - 1) (omega (arith, N.most)) (λ k a b. rw (N.behind k (omega arith) b)) (A.none from to N)

-- ---- changing: the first n pairs from a port, of which those named are changed
module _ {A : Type 0} where
  set_after : (xs ys : List A) (n : ℕ) (v : A) → set (xs ++ ys) (length xs + n) v ≡ xs ++ set ys n v
  set_after [] ys n v = let e : 0 + n ≡ n = omega arith in rw e
  set_after (x ∷ xs) ys n v = let e : suc (length xs) + n ≡ suc (length xs + n) = omega arith in rw e (ap {B = List A} (λ l. x ∷ l) (set_after xs ys n v))

  -- places that change nothing may be passed over
  each_still : (change : ℕ → A → A) (m n : ℕ) (xs : List A) → m ≤ n → ((k : ℕ) (x : A) → m ≤ k → k < n → change k x ≡ x) → each change m xs ≡ each change n xs
  unfolding each
  each_still change zero zero xs l h = refl
  each_still change (suc m) zero xs l h = absurd (omega arith)
  each_still change zero (suc n) [] l h = refl
  each_still change (suc m) (suc n) [] l h = refl
  each_still change zero (suc n) (x ∷ xs) l h = rw (h 0 x (omega arith) (omega arith), ← (each_still (λ q. change (suc q)) 0 n xs (omega arith) (λ k y a b. h (suc k) y (omega arith) (omega arith))))
  each_still change (suc m) (suc n) (x ∷ xs) l h = ap {B = List A} (λ ys. change 0 x ∷ ys) (each_still (λ q. change (suc q)) m n xs (omega arith) (λ k y a b. h (suc k) y (omega arith) (omega arith)))

module _ (ports from to : ℕ) (change : Filter → Filter) (pairs : List Filter) (long : length pairs ≡ pair_count ports) (low : 1 ≤ from) (high : from ≤ ports) where
  head_long : length (take (first_pair ports from) pairs) ≡ first_pair ports from
  head_long = length-take-le (first_pair ports from) pairs (rw long (row_below {p = from - 1} (omega arith)))

  pub change_none : change_named ports 0 change from to pairs ≡ pairs
  unfolding change_named each
  change_none = take-append-drop (first_pair ports from) pairs

  change_still : (m n : ℕ) → m ≤ n → ((k : ℕ) → m ≤ k → k < n → names from to k ≡ false) → change_named ports m change from to pairs ≡ change_named ports n change from to pairs
  unfolding change_named
  change_still m n l h = ap {B = List Filter} (λ ps. take (first_pair ports from) pairs ++ ps) (each_still (change_at change from to) m n (drop (first_pair ports from) pairs) l (λ k f a b. rw (h k a b)))

  -- the pair that is next is as it was
  next_still : (n : ℕ) → get_or (change_named ports n change from to pairs) (first_pair ports from + n) clear ≡ get_or (each (change_at change from to) n (drop (first_pair ports from) pairs)) n clear
  unfolding change_named
  next_still n = by_length (first_pair ports from) head_long
    where
      by_length : (s : ℕ) → length (take (first_pair ports from) pairs) ≡ s
          → get_or (take (first_pair ports from) pairs ++ each (change_at change from to) n (drop (first_pair ports from) pairs)) (s + n) clear ≡ get_or (each (change_at change from to) n (drop (first_pair ports from) pairs)) n clear
      by_length s e = rw (← e) (get_or-append-add (take (first_pair ports from) pairs) (each (change_at change from to) n (drop (first_pair ports from) pairs)) n clear)

  next_is : (n : ℕ) → get_or (change_named ports n change from to pairs) (first_pair ports from + n) clear ≡ get_or pairs (first_pair ports from + n) clear
  next_is n = next_still n ∙ each_later (change_at change from to) n (drop (first_pair ports from) pairs) n clear (omega arith) ∙ get_or-drop (first_pair ports from) pairs n clear

  change_at_lem : (n : ℕ) → n < ports - 1 → set (change_named ports n change from to pairs) (first_pair ports from + n) (change_at change from to n (get_or (change_named ports n change from to pairs) (first_pair ports from + n) clear)) ≡ change_named ports (n + 1) change from to pairs
  unfolding change_named
  change_at_lem n l = rw (next_still n) (by_length (first_pair ports from) head_long)
    where
      by_length : (s : ℕ) → length (take (first_pair ports from) pairs) ≡ s
          → set (change_named ports n change from to pairs) (s + n) (change_at change from to n (get_or (each (change_at change from to) n (drop (first_pair ports from) pairs)) n clear)) ≡ change_named ports (n + 1) change from to pairs
      by_length s e =
          rw (← e)
          (set_after (take (first_pair ports from) pairs) (each (change_at change from to) n (drop (first_pair ports from) pairs)) n (change_at change from to n (get_or (each (change_at change from to) n (drop (first_pair ports from) pairs)) n clear))
          ∙ ap {B = List Filter} (λ l. take (first_pair ports from) pairs ++ l)
          (each_step (change_at change from to) n (drop (first_pair ports from) pairs) clear (simp length-drop (omega (arith, pair_below {ports = ports} {p = from - 1} {k = n} (omega arith) l)))))

-- where the loop stands at pair i: those that are named and stand before it are changed
pub record Walking (ports first end : ℕ) (start words : List ℕ) (change : Filter → Filter) (i : ℕ) : Type 0 where
  pub whole : length words ≡ record_length ports
  pub state : (from to : ℕ) → Naming ports from to first end
      → model_of ports words ≡ with_rest (model_of ports start) (with_pairs (model_of ports start).rest (change_named ports (i - first_pair ports from) change from to (pairs_in ports start)))
  pub others : (from to : ℕ) → Naming ports from to first end → (m : ℕ) → Beside ports from to m → get_or words m 0 ≡ get_or start m 0

module _ {ports from to first end : ℕ} (N : Naming ports from to first end) (start : List ℕ) (change : Filter → Filter) where
  none_changed : change_named ports (first - first_pair ports from) change from to (pairs_in ports start) ≡ pairs_in ports start
  none_changed =
      sym (change_still ports from to change (pairs_in ports start) (pairs_long ports start) N.low N.high 0 (first - first_pair ports from) (omega arith) (λ k _ l. N.before k (omega arith)))
      ∙ change_none ports from to change (pairs_in ports start) (pairs_long ports start) N.low N.high

  all_changed : change_named ports (end - first_pair ports from) change from to (pairs_in ports start) ≡ change_named ports (ports - 1) change from to (pairs_in ports start)
  all_changed =
      change_still ports from to change (pairs_in ports start) (pairs_long ports start) N.low N.high (end - first_pair ports from) (ports - 1) (omega (arith, N.most)) (λ k a b. N.behind k (omega arith) b)

  one_changed : (k : ℕ) → first ≤ first_pair ports from + k → first_pair ports from + k < end
      → set (change_named ports k change from to (pairs_in ports start)) (first_pair ports from + k) (change (get_or (change_named ports k change from to (pairs_in ports start)) (first_pair ports from + k) clear)) ≡ change_named ports (k + 1) change from to (pairs_in ports start)
  one_changed k a b = rw (N.inside k a b) at (change_at_lem ports from to change (pairs_in ports start) (pairs_long ports start) N.low N.high k (omega (arith, N.most)))

module _ {ports first end : ℕ} {start : List ℕ} {change : Filter → Filter} where
  pub walk_start : length start ≡ record_length ports → Walking ports first end start start change first
  walk_start h = record { whole = h; state = λ from to N. rw (none_changed N start change); others = λ _ _ _ _ _. refl }

  pub walk_more : {words after : List ℕ} {i : ℕ} → Walking ports first end start words change i → first ≤ i → i < end → length after ≡ record_length ports → PairChanging ports words after i change → Walking ports first end start after change (i + 1)
  walk_more {words} {after} {i} W a b h P = record {
    whole = h;
    state = λ from to N.
        let k = i - first_pair ports from in
        let e : i ≡ first_pair ports from + k = omega (arith, N.least) in
        let s : i + 1 - first_pair ports from ≡ k + 1 = omega (arith, N.least) in
        rw s ((rw (W.state from to N) at (rw e at P).state) ∙ ap (λ ps. with_rest (model_of ports start) (with_pairs (model_of ports start).rest ps)) (one_changed N start change k (omega arith) (omega arith)));
    others = λ from to N m l.
        let k = i - first_pair ports from in
        let e : i ≡ first_pair ports from + k = omega (arith, N.least) in
        (rw e at P).others m (l k (omega (arith, N.most)) (N.inside k (omega arith) (omega arith))) ∙ W.others from to N m l;
  }

  pub walk_done : {words : List ℕ} → Walking ports first end start words change end → (from to : ℕ) → Naming ports from to first end → PairsChanging ports start words from to change
  walk_done W from to N = record { state = rw (all_changed N start change) at (W.state from to N); others = W.others from to N }

  -- the pair that is next is as it was
  pub walk_next : {words : List ℕ} {i : ℕ} → Walking ports first end start words change i → first ≤ i → (from to : ℕ) → Naming ports from to first end → get_or (pairs_in ports words) i clear ≡ get_or (pairs_in ports start) i clear
  walk_next {words} {i} W a from to N = ap (λ (m : Model). get_or m.rest.pairs i clear) (W.state from to N) ∙ still i (omega (arith, N.least))
    where
      still : (j : ℕ) → j ≡ first_pair ports from + (i - first_pair ports from)
          → get_or (change_named ports (i - first_pair ports from) change from to (pairs_in ports start)) j clear ≡ get_or (pairs_in ports start) j clear
      still j e = rw e (next_is ports from to change (pairs_in ports start) (pairs_long ports start) N.low N.high (i - first_pair ports from))

-- ---- a command: refused, or done
module _ {ports : ℕ} {start : List ℕ} (from to : ℕ) (change : Change) (xs : List ℕ) where
  pub command_refused : {n : ℕ} → n ≡ list_refusal ports change xs from to (model_of ports start).rest.pairs → (n ≡ 0 → ⊥) → Commanding ports start start from to change xs n
  unfolding commanded
  command_refused {n} e h = record { answer = e; state = rw (← e, ne_eqb n 0 h); refused = λ _. refl; others = λ _ _. refl }

  pub command_done : {after : List ℕ} → list_refusal ports change xs from to (model_of ports start).rest.pairs ≡ 0 → PairsChanging ports start after from to (change_of change xs) → Commanding ports start after from to change xs 0
  unfolding commanded
  command_done z P = record { answer = sym z; state = rw (eq-eqb (list_refusal ports change xs from to (model_of ports start).rest.pairs) 0 z) P.state; refused = λ h. absurd (h refl); others = P.others }
