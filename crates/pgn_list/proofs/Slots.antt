-- The index: a number with a slot that is 0 is not listed; noting one more keeps it. Assumes nothing.
use mathlib.Core.Path.{◌≡◌, refl, sym, ap, ◌∙◌}
use mathlib.Core.Logic.{◌⊎◌, inl, inr, ⊎_elim}
use mathlib.Core.Bool.{Bool, true, false, ◌||◌}
use mathlib.Core.List.{List, [], ◌∷◌}
use Prim.Native.Nat.{ℕ, zero, suc, ◌+◌, ◌-◌, ◌≤◌, ◌<◌}
use native.Mathlib.Nat.{not-suc-le-zero, le_of_suc-le-suc}
use native.Mathlib.Decide.{dec_lt}
use native.Mathlib.Omega.{arith}
use borrow.Author.Tests.{eq-eqb, ne_eqb, eqb-true, eqb-false}
use lib.Dec.{eqb}
use lib.ListN.{length, get_or, set, take, replicate, length-set, length-replicate}
use lib.Seq.{get_or-set_same, get_or-set_other, get_or-take, length-take-le}
use Rattle.entries.specs.Entries.{listed}
use Rattle.pgn_list.specs.Slots.{slots, slot_of, Indexed}

pub slot_small : (x : ℕ) → slot_of x < slots
unfolding slot_of
slot_small x = omega arith

-- ---- what is listed, by the elements
pub none_listed : (x : ℕ) (es : List ℕ) → ((j : ℕ) → j < length es → get_or es j 0 ≡ x → ⊥) → listed x es ≡ false
unfolding listed
none_listed x [] h = refl
none_listed x (e ∷ es) h = rw (ne_eqb e x (h 0 (omega arith))) (none_listed x es (λ j l q. h (suc j) (omega arith) q))

or_true : (b : Bool) → b || true ≡ true
or_true true = refl
or_true false = refl

pub one_of : (x : ℕ) (es : List ℕ) (j : ℕ) → j < length es → get_or es j 0 ≡ x → listed x es ≡ true
unfolding listed
one_of x [] j l q = absurd (not-suc-le-zero l)
one_of x (e ∷ es) zero l q = rw (eq-eqb e x q)
one_of x (e ∷ es) (suc j) l q = rw (one_of x es j (le_of_suc-le-suc l) q) (or_true (eqb e x))

-- ---- one more is noted
module _ {list index : List ℕ} (list' : List ℕ) {i x p : ℕ} (I : Indexed list i index) (same : (j : ℕ) → j < i → get_or list' j 0 ≡ get_or list j 0) (here : get_or list' i 0 ≡ x) (low : 0 < p) (high : p ≤ i + 1) where
  at : (s : ℕ) → (get_or (set index (slot_of x) p) s 0 ≡ p) ⊎ (get_or (set index (slot_of x) p) s 0 ≡ get_or index s 0)
  at s = go (eqb s (slot_of x)) refl
    where
      go : (b : Bool) → eqb s (slot_of x) ≡ b → (get_or (set index (slot_of x) p) s 0 ≡ p) ⊎ (get_or (set index (slot_of x) p) s 0 ≡ get_or index s 0)
      go true e = inl (rw (eqb-true s (slot_of x) e) (get_or-set_same index (slot_of x) p 0 (omega (arith, I.long, slot_small x))))
      go false e = inr (get_or-set_other index (slot_of x) s p 0 (eqb-false s (slot_of x) e))

  last : get_or (set index (slot_of x) p) (slot_of x) 0 ≡ 0 → ⊥
  last z = omega (arith, get_or-set_same index (slot_of x) p 0 (omega (arith, I.long, slot_small x)))

  noted : (j : ℕ) → j < i + 1 → get_or (set index (slot_of x) p) (slot_of (get_or list' j 0)) 0 ≡ 0 → ⊥
  noted j l z =
      elim (dec_lt j i) [
        | yes h ↦ ⊎_elim (λ e. omega arith) (λ e. I.noted j h (ap (λ y. get_or index (slot_of y) 0) (sym (same j h)) ∙ sym e ∙ z)) (at (slot_of (get_or list' j 0)))
        | no h ↦ let e : j ≡ i = omega arith in last (rw (e, here) at z)
      ]

  pub indexed_one : Indexed list' (i + 1) (set index (slot_of x) p)
  indexed_one = record {
    long = length-set index (slot_of x) p ∙ I.long;
    noted = noted;
    inside = λ s. ⊎_elim (λ e. omega arith) (λ e. omega (arith, I.inside s)) (at s);
  }

-- and joins the end of the list
pub indexed_new : (x : ℕ) {list index : List ℕ} {held p : ℕ} → Indexed list held index → held < length list → 0 < p → p ≤ held + 1 → Indexed (set list held x) (held + 1) (set index (slot_of x) p)
indexed_new x {list} {index} {held} I room low high =
    indexed_one (set list held x) I (λ j h. get_or-set_other list held j x 0 (λ e. omega arith)) (get_or-set_same list held x 0 room) low high

pub indexed_none : {list index : List ℕ} → index ≡ replicate slots 0 → Indexed list 0 index
indexed_none {list} {index} e = record {
  long = rw e (length-replicate {A = ℕ} slots 0);
  noted = λ j l z. absurd (not-suc-le-zero l);
  inside = λ s. rw e (zeros slots s);
}
  where
    zeros : (k s : ℕ) → get_or (replicate k 0) s 0 ≤ 0
    zeros zero s = omega arith
    zeros (suc k) zero = omega arith
    zeros (suc k) (suc s) = zeros k s

-- ---- the first n of a list are a list
module _ {list index : List ℕ} {n : ℕ} (fits : n ≤ length list) where
  pub indexed_front : Indexed list n index → Indexed (take n list) (length (take n list)) index
  indexed_front I = record {
    long = I.long;
    noted = λ j l z. let h : j < n = omega (arith, length-take-le n list fits) in I.noted j h (rw (get_or-take n list j 0 h) at z);
    inside = λ s. omega (arith, I.inside s, length-take-le n list fits);
  }

  pub indexed_back : Indexed (take n list) (length (take n list)) index → Indexed list n index
  indexed_back I = record {
    long = I.long;
    noted = λ j l z. I.noted j (omega (arith, length-take-le n list fits)) (rw (get_or-take n list j 0 l) z);
    inside = λ s. omega (arith, I.inside s, length-take-le n list fits);
  }

-- ---- what the index says
module _ {list index : List ℕ} (x : ℕ) (I : Indexed list (length list) index) where
  pub slot_free : get_or index (slot_of x) 0 ≡ 0 → listed x list ≡ false
  slot_free z = none_listed x list (λ j l q. I.noted j l (rw q z))

  pub slot_held : {p : ℕ} → p ≡ get_or index (slot_of x) 0 → (p ≡ 0 → ⊥) → get_or list (p - 1) 0 ≡ x → listed x list ≡ true
  slot_held {p} e ne q = one_of x list (p - 1) (omega (arith, I.inside (slot_of x))) q
