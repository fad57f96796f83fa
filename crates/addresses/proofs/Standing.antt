-- Whether a NAME stands in the table, by its places. Assumes nothing.
use Rattle.std.specs.Prelude.{None}
use mathlib.Core.Path.{◌≡◌, refl, sym, ◌∙◌}
use mathlib.Core.Bool.{Bool, true, false, ◌||◌, or-false, or_assoc, or-true, true≢false}
use mathlib.Core.List.{List, [], ◌∷◌}
use Prim.Native.Nat.{ℕ, zero, suc, ◌<◌}
use native.Mathlib.Nat.{not-suc-le-zero, le_of_suc-le-suc}
use lib.ListN.{length, get_or, take}
use Rattle.addresses.specs.Table.{held_by, stands_in, Place}

-- a NAME that holds a place stands in the table
pub stands_at : (name : ℕ) (table : List Place) (i : ℕ) → held_by name (get_or table i None) ≡ true → stands_in name table ≡ true
unfolding stands_in held_by
stands_at name [] i e = e
stands_at name (p ∷ ps) zero e = rw e
stands_at name (p ∷ ps) (suc i) e = rw (stands_at name ps i e) (or-true (held_by name p))

-- a NAME that does not stand in the table holds no place
pub stands_nowhere : (name : ℕ) (table : List Place) (i : ℕ) → stands_in name table ≡ false → held_by name (get_or table i None) ≡ false
stands_nowhere name table i e = by (held_by name (get_or table i None)) refl
  where
    by : (b : Bool) → held_by name (get_or table i None) ≡ b → held_by name (get_or table i None) ≡ false
    by true h = let z : true ≡ false = sym (stands_at name table i h) ∙ e in h ∙ z
    by false h = h

-- a NAME that stands in the table holds a place
first_or_rest : (b : Bool) (name : ℕ) (p : Place) (ps : List Place) → held_by name p ≡ b → (b || stands_in name ps) ≡ true → (stands_in name ps ≡ true → (i : ℕ) × (held_by name (get_or ps i None) ≡ true)) → (i : ℕ) × (held_by name (get_or (p ∷ ps) i None) ≡ true)
first_or_rest true name p ps e t rest = (0, e)
first_or_rest false name p ps e t rest = let r = rest t in (suc r.0, r.1)

pub stands_somewhere : (name : ℕ) (table : List Place) → stands_in name table ≡ true → (i : ℕ) × (held_by name (get_or table i None) ≡ true)
unfolding stands_in
stands_somewhere name [] t = absurd (true≢false (sym t))
stands_somewhere name (p ∷ ps) t = first_or_rest (held_by name p) name p ps refl t (stands_somewhere name ps)

-- one more place
pub stands_more : (name : ℕ) (table : List Place) (i : ℕ) → i < length table → stands_in name (take (suc i) table) ≡ (stands_in name (take i table) || held_by name (get_or table i None))
unfolding stands_in
stands_more name [] i h = absurd (not-suc-le-zero h)
stands_more name (p ∷ ps) zero h = or-false (held_by name p)
stands_more name (p ∷ ps) (suc i) h =
    rw (stands_more name ps i (le_of_suc-le-suc h)) (sym (or_assoc (held_by name p) (stands_in name (take i ps)) (held_by name (get_or ps i None))))
