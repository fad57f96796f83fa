-- An address turned there and back is the same, in tables in which none stands twice; and an entry that is not refused keeps them so. Assumes nothing.
use mathlib.Core.Path.{◌≡◌, refl, sym, ap, ◌∙◌}
use mathlib.Core.Logic.{◌⊎◌, inl, inr, ⊎_elim}
use mathlib.Core.Bool.{Bool, true, false, cond, not, ◌||◌, true≢false}
use mathlib.Core.List.{List, [], ◌∷◌, ◌++◌}
use Rattle.std.specs.Prelude.{Option, Some}
use Prim.Native.Nat.{ℕ, zero, suc, ◌-◌, ◌/◌, ◌<◌}
use native.Mathlib.Decide.{ℕ_discrete}
use native.Mathlib.Omega.{arith}
use borrow.Author.Tests.{eqb-true, eqb-false, eq-eqb, ne_eqb, not-true}
use lib.Dec.{eqb}
use lib.ListN.{length, get_or, replicate, length-replicate}
use lib.Seq.{get_or-set_same, get_or-set_other}
use Rattle.storage.proofs.Blocks.{blocks_filled}
use Rattle.checks.proofs.Tests.{both, neither}
use Rattle.address_pairs.specs.AddressPairs.{AddressPair, pair_of, inner_side, outer_side, side, look_up, stands, any_outer, once, pairs_length, pairs_in, pairs_of, tables_of, table_of, wrong_address, twice, full, refusal_of, added}
use Rattle.address_pairs.specs.ThereAndBack.{OnceEach, ThereAndBack}

or_right : (b : Bool) {c : Bool} → c ≡ true → (b || c) ≡ true
or_right true e = refl
or_right false e = e

or_left : {b : Bool} (c : Bool) → b ≡ true → (b || c) ≡ true
or_left c e = rw e

never : {A : Type 0} {b : Bool} → b ≡ true → b ≡ false → A
never e f = absurd (true≢false (sym e ∙ f))

-- ---- in one table
-- what a look-up gives stands on the other side
lands : (from to : ℕ) (ps : List AddressPair) (a o : ℕ) → look_up from to ps a ≡ Some o → stands to ps o ≡ true
unfolding look_up stands
lands from to [] a o e = cc
lands from to (p ∷ ps) a o e = go (eqb (side from p) a) e (lands from to ps a o)
  where
    go : (b : Bool) → cond b (Some (side to p)) (look_up from to ps a) ≡ Some o → (look_up from to ps a ≡ Some o → stands to ps o ≡ true)
        → (eqb (side to p) o || stands to ps o) ≡ true
    go true e later = let s : side to p ≡ o = cc in or_left (stands to ps o) (eq-eqb (side to p) o s)
    go false e later = or_right (eqb (side to p) o) (later e)

-- where no address stands twice on that side, it is turned back
turned_back : (from to : ℕ) (ps : List AddressPair) (a o : ℕ) → once to ps ≡ true → look_up from to ps a ≡ Some o → look_up to from ps o ≡ Some a
unfolding look_up once
turned_back from to [] a o u e = cc
turned_back from to (p ∷ ps) a o u e = go (eqb (side from p) a) refl e (turned_back from to ps a o apart.1)
  where
    apart : (not (stands to ps (side to p)) ≡ true) × (once to ps ≡ true)
    apart = both (not (stands to ps (side to p))) (once to ps) u

    go : (b : Bool) → eqb (side from p) a ≡ b → cond b (Some (side to p)) (look_up from to ps a) ≡ Some o
        → (look_up from to ps a ≡ Some o → look_up to from ps o ≡ Some a)
        → cond (eqb (side to p) o) (Some (side from p)) (look_up to from ps o) ≡ Some a
    go true h e later =
        let s : side to p ≡ o = cc in
        rw (eq-eqb (side to p) o s) (ap {B = Option ℕ} Some (eqb-true (side from p) a h))
    go false h e later =
        let l : stands to ps o ≡ true = lands from to ps a o e in
        rw (ne_eqb (side to p) o (λ z. never l (rw z at (not-true (stands to ps (side to p)) apart.0))))
        (later e)

-- ---- one more pair
stands_behind : (s : ℕ) (ps : List AddressPair) (p : AddressPair) (a : ℕ) → stands s (ps ++ p ∷ []) a ≡ (stands s ps a || eqb (side s p) a)
unfolding stands
stands_behind s [] p a = or_false (eqb (side s p) a)
  where
    or_false : (b : Bool) → (b || false) ≡ b
    or_false true = refl
    or_false false = refl
stands_behind s (q ∷ ps) p a = rw (stands_behind s ps p a) (assoc (eqb (side s q) a) (stands s ps a) (eqb (side s p) a))
  where
    assoc : (a b c : Bool) → (a || (b || c)) ≡ ((a || b) || c)
    assoc true b c = refl
    assoc false b c = refl

once_behind : (s : ℕ) (ps : List AddressPair) (p : AddressPair) → once s ps ≡ true → stands s ps (side s p) ≡ false → once s (ps ++ p ∷ []) ≡ true
unfolding once stands
once_behind s [] p u f = refl
once_behind s (q ∷ ps) p u f =
    let t = both (not (stands s ps (side s q))) (once s ps) u in
    let g = neither (eqb (side s q) (side s p)) (stands s ps (side s p)) f in
    rw (
      stands_behind s ps p (side s q),
      not-true (stands s ps (side s q)) t.0,
      ne_eqb (side s p) (side s q) (λ e. eqb-false (side s q) (side s p) g.0 (sym e)),
    )
    (once_behind s ps p t.1 g.1)

-- ---- in all tables
none_has : (tables : List (List AddressPair)) (a : ℕ) → any_outer tables a ≡ false → (i : ℕ) → stands outer_side (get_or tables i []) a ≡ false
unfolding any_outer stands
none_has [] a f i = refl
none_has (t ∷ ts) a f zero = (neither (stands outer_side t a) (any_outer ts a) f).0
none_has (t ∷ ts) a f (suc i) = none_has ts a (neither (stands outer_side t a) (any_outer ts a) f).1 i

passed : (w t f : Bool) → ◌≡◌ {A = ℕ} (cond w 32 (cond t 30 (cond f 31 0))) 0 → (w ≡ false) × (t ≡ false) × (f ≡ false)
passed true t f e = absurd (omega (arith, e))
passed false true f e = absurd (omega (arith, e))
passed false false true e = absurd (omega (arith, e))
passed false false false e = (refl, refl, refl)

pub not_refused : (tables : List (List AddressPair)) (port outer inner : ℕ) → refusal_of tables port outer inner ≡ 0
    → (wrong_address outer inner ≡ false) × (twice tables port outer inner ≡ false) × (full (table_of tables port) ≡ false)
unfolding refusal_of
not_refused tables port outer inner e = passed (wrong_address outer inner) (twice tables port outer inner) (full (table_of tables port)) e

module _ (tables : List (List AddressPair)) (port outer inner : ℕ) (there : port - 2 < length tables) (O : OnceEach tables)
    (free : refusal_of tables port outer inner ≡ 0) where
  abbrev own : ℕ
  own = port - 2

  abbrev after : List (List AddressPair)
  after = added tables port outer inner

  new_tables : (stands inner_side (table_of tables port) inner ≡ false) × (any_outer tables outer ≡ false)
  new_tables =
      neither (stands inner_side (table_of tables port) inner) (any_outer tables outer) (not_refused tables port outer inner free).1

  abbrev longer : List AddressPair
  longer = table_of tables port ++ pair_of outer inner ∷ []

  at_own : get_or after own [] ≡ longer
  at_own = get_or-set_same tables own longer [] there

  at_other : (i : ℕ) → (i ≡ own → ⊥) → get_or after i [] ≡ get_or tables i []
  at_other i ne = get_or-set_other tables own i longer [] ne

  -- a side stays as it is: in the table that grew, and in every other
  stays : (s : ℕ) → ((i : ℕ) → once s (get_or tables i []) ≡ true) → stands s (table_of tables port) (side s (pair_of outer inner)) ≡ false → (i : ℕ) → once s (get_or after i []) ≡ true
  stays s old new i = elim (ℕ_discrete i own) [
    | yes e ↦ rw (e, at_own) (once_behind s (table_of tables port) (pair_of outer inner) (old own) new)
    | no ne ↦ rw (at_other i ne) (old i)
  ]

  -- an outer address that stands in a table stood there, or is the new one
  stood : (i a : ℕ) → stands outer_side (get_or after i []) a ≡ true → (stands outer_side (get_or tables i []) a ≡ true) ⊎ ((i ≡ own) × (outer ≡ a))
  stood i a h = elim (ℕ_discrete i own) [
    | yes e ↦ here e (stands outer_side (table_of tables port) a) refl (rw (e, at_own, stands_behind outer_side (table_of tables port) (pair_of outer inner) a) at h)
    | no ne ↦ inl (rw (at_other i ne) at h)
  ]
    where
      here : i ≡ own → (b : Bool) → stands outer_side (table_of tables port) a ≡ b → (b || eqb outer a) ≡ true
          → (stands outer_side (get_or tables i []) a ≡ true) ⊎ ((i ≡ own) × (outer ≡ a))
      here e true s h = inl (rw e s)
      here e false s h = inr (e, eqb-true outer a h)

  -- the new one stood nowhere
  not_new : (i a : ℕ) → stands outer_side (get_or tables i []) a ≡ true → outer ≡ a → ⊥
  not_new i a h e = true≢false (sym h ∙ rw e at (none_has tables outer new_tables.1 i))

  one_table : (i j a : ℕ) → stands outer_side (get_or after i []) a ≡ true → stands outer_side (get_or after j []) a ≡ true → i ≡ j
  one_table i j a h k =
      ⊎_elim
      (λ old. ⊎_elim (λ old'. O.one_table i j a old old') (λ new. absurd (not_new i a old new.1)) (stood j a k))
      (λ new. ⊎_elim (λ old. absurd (not_new j a old new.1)) (λ new'. new.0 ∙ sym new'.0) (stood j a k))
      (stood i a h)

  kept : OnceEach after
  kept = record {
    inner = stays inner_side O.inner new_tables.0;
    outer = stays outer_side O.outer (none_has tables outer new_tables.1 own);
    one_table = one_table;
  }

-- ---- power-on
no_pairs : (n i : ℕ) → ◌≡◌ {A = List AddressPair} (get_or (replicate n []) i []) []
no_pairs zero i = refl
no_pairs (suc n) zero = refl
no_pairs (suc n) (suc i) = no_pairs n i

fresh : (n : ℕ) → OnceEach (replicate n [])
unfolding once stands
fresh n = record {
  inner = λ i. rw (no_pairs n i);
  outer = λ i. rw (no_pairs n i);
  one_table = λ i j a h k. absurd (true≢false (sym h ∙ rw (no_pairs n i)));
}

empty : (n : ℕ) → tables_of (replicate n 0) ≡ replicate (n / pairs_length) []
unfolding tables_of pairs_of pairs_in
empty n = rw (length-replicate {A = ℕ} n 0) (blocks_filled n 0 pairs_of pairs_length 0 (n / pairs_length) (omega arith))

pub there_and_back : ThereAndBack
there_and_back = record {
  empty = empty;
  fresh = fresh;
  kept = kept;
  back = λ tables O port a o. (
    turned_back inner_side outer_side (table_of tables port) a o (O.outer (port - 2)),
    turned_back outer_side inner_side (table_of tables port) o a (O.inner (port - 2)),
  );
  alone = λ tables O i j a o e h. O.one_table i j o (lands inner_side outer_side (get_or tables i []) a o e) h;
}
