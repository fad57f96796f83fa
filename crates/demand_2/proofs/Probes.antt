-- What a sound pair searches are its PGNs in rising order, and the probes are those of the halving rule. Assumes nothing.
use mathlib.Core.Path.{◌≡◌, refl, sym, ◌∙◌}
use mathlib.Core.Bool.{Bool, true, false, cond}
use mathlib.Core.List.{List}
use Prim.Native.Nat.{ℕ, zero, suc, ◌-◌, ◌≤◌, ◌<◌}
use native.Mathlib.Numerals.{add-one}
use native.Mathlib.Omega.{arith}
use borrow.Author.Tests.{eqb-true, eqb-false, eq-eqb, ltb-true, ltb-false}
use lib.Dec.{eqb, ltb}
use lib.ListN.{length, get_or}
use Rattle.entries.specs.Entries.{listed}
use Rattle.sorted_list.specs.SortedList.{Probed, probed, more, halving_in, halved}
use Rattle.sorted_list.proofs.Lookup.{rising_at, here, found_listed}
use Rattle.sorted_list.proofs.Commands.{sorted_rising, sorted_listed}
use Rattle.filter.specs.Filter.{Filter}
use Rattle.filter_commands.specs.Changes.{Sound}
use Rattle.demand_2.specs.Matching.{Among, InOrder, middle, Halving, none_left, equal, above, below}
use Rattle.demand_2.proofs.Searches.{listed_any, somewhere}

-- ---- the halving rule
halves : (k : ℕ) (list : List ℕ) (x lo hi : ℕ) → hi - lo ≤ k → Halving list x lo hi (halving_in k list x lo hi).found (halving_in k list x lo hi).probes
unfolding halving_in
halves zero list x lo hi h = none_left {lo = lo} {hi = hi} (omega arith)
halves (suc k) list x lo hi h = go (halves k list x) (ltb lo hi) refl (eqb y x) refl (ltb y x) refl
  where
    y : ℕ
    y = get_or list (middle lo hi) 0

    one : Bool → Bool → Bool → Probed
    one b c d = cond b (cond c (probed true 1) (cond d (more (halving_in k list x (suc (middle lo hi)) hi)) (more (halving_in k list x lo (middle lo hi))))) (probed false 0)

    go : ((lo hi : ℕ) → hi - lo ≤ k → Halving list x lo hi (halving_in k list x lo hi).found (halving_in k list x lo hi).probes)
        → (b : Bool) → ltb lo hi ≡ b → (c : Bool) → eqb y x ≡ c → (d : Bool) → ltb y x ≡ d → Halving list x lo hi (one b c d).found (one b c d).probes
    go ih false p c q d s = none_left {lo = lo} {hi = hi} (ltb-false lo hi p)
    go ih true p true q d s = equal {lo = lo} {hi = hi} (ltb-true lo hi p) (eqb-true y x q)
    go ih true p false q true s =
        let l = ltb-true lo hi p in
        let t = halving_in k list x (suc (middle lo hi)) hi in
        rw (← (add-one t.probes)) (above {lo = lo} {hi = hi} {found = t.found} {n = t.probes} l (ltb-true y x s) (rw (add-one (middle lo hi)) (ih (suc (middle lo hi)) hi (omega arith))))
    go ih true p false q false s =
        let l = ltb-true lo hi p in
        let ne = eqb-false y x q in
        let le = ltb-false y x s in
        let lt : x < y = omega (arith, ne, le) in
        let t = halving_in k list x lo (middle lo hi) in
        rw (← (add-one t.probes)) (below {lo = lo} {hi = hi} {found = t.found} {n = t.probes} l lt (ih lo (middle lo hi) (omega arith)))

pub halves_all : (x : ℕ) (list : List ℕ) → Halving list x 0 (length list) (halved x list).found (halved x list).probes
unfolding halved
halves_all x list = halves (length list - 0) list x 0 (length list) (omega arith)

-- ---- the order
among : (x : ℕ) (l : List ℕ) → listed x l ≡ true → Among (length l) (λ k. get_or l k 0 ≡ x)
among x l e = somewhere (λ y. eqb y x) l 0 (λ k. get_or l k 0 ≡ x) (λ k. eqb-true _ x) (λ k. eq-eqb _ x) (sym (listed_any x l) ∙ e)

is_listed_lem : (x : ℕ) (l : List ℕ) → Among (length l) (λ k. get_or l k 0 ≡ x) → listed x l ≡ true
is_listed_lem x l a = here x l a.0 a.1 a.2

module _ (f : Filter) (S : Sound f) where
  lists_same : (x : ℕ) → listed x f.sorted ≡ listed x f.entries
  lists_same x = rw S.in_order (sorted_listed x f.entries)

  pub in_order : InOrder f.entries f.sorted
  in_order = record {
    rising = λ i j l h. rising_at f.sorted i j (rw S.in_order (sorted_rising f.entries)) l h;
    same = λ x. ((λ a. among x f.entries (sym (lists_same x) ∙ is_listed_lem x f.sorted a)), (λ a. among x f.sorted (lists_same x ∙ is_listed_lem x f.entries a)));
  }

  -- the search finds what is listed
  pub finds : (x : ℕ) → (halved x f.sorted).found ≡ listed x f.entries
  finds x = found_listed x f.sorted (rw S.in_order (sorted_rising f.entries)) ∙ lists_same x
