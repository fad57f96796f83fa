-- Words and places: a read of two words is a read of a place, a store of two words is a store of a place. Assumes nothing.
use Rattle.std.specs.Prelude.{None}
use mathlib.Core.Path.{◌≡◌, refl, sym, ap, ◌∙◌}
use mathlib.Core.Bool.{Bool, true, false, not, ◌&&◌, cond, and-true, and-false}
use mathlib.Core.List.{List, [], ◌∷◌}
use Prim.Native.Nat.{ℕ, zero, suc, ◌+◌, ◌*◌, ◌<◌}
use native.Mathlib.Nat.{not-suc-le-zero, le_of_suc-le-suc}
use native.Mathlib.Numerals.{add-one}
use native.Mathlib.Omega.{arith}
use borrow.Author.Tests.{eq-eqb, ne_eqb}
use lib.ListN.{length, get_or, set, take, drop, replicate}
use lib.Dec.{eqb}
use lib.Seq.{get_or-take, get_or-drop}
use Rattle.storage.specs.Blocks.{block_at}
use Rattle.storage.proofs.Parts.{back}
use Rattle.storage.proofs.Blocks.{length_blocks, blocks_at, blocks_set, blocks_filled}
use Rattle.addresses.specs.Table.{places, table_length, place_from, place_of, table_of, held_by, held_on, Place, held}

pub table_length_lem : (words : List ℕ) → length (table_of words) ≡ places
unfolding table_of
table_length_lem words = length_blocks place_of 2 0 places words

word : (words : List ℕ) (a k : ℕ) → k < 2 → get_or (take 2 (drop a words)) k 0 ≡ get_or words (a + k) 0
word words a k h = get_or-take 2 (drop a words) k 0 h ∙ get_or-drop a words k 0

module _ (words : List ℕ) (i : ℕ) (in_table : i < places) where
  pub place_at : get_or (table_of words) i None ≡ place_from (get_or words (2 * i) 0) (get_or words (2 * i + 1) 0)
  unfolding table_of place_of block_at
  place_at =
      let e : 0 + 2 * i + 0 ≡ 2 * i = omega arith in
      let f : 0 + 2 * i + 1 ≡ 2 * i + 1 = omega arith in
      blocks_at place_of 2 0 places words i None in_table
      ∙ rw (word words (0 + 2 * i) 0 (omega arith), word words (0 + 2 * i) 1 (omega arith), e, f)

  -- ---- reads, by the way that the code went
  pub free_read : get_or words (2 * i) 0 ≡ 0 → None ≡ get_or (table_of words) i None
  unfolding place_from
  free_read e = rw (place_at, eq-eqb _ _ e)

  pub held_read : (get_or words (2 * i) 0 ≡ 0 → ⊥) → held (get_or words (2 * i) 0) (get_or words (2 * i + 1) 0) ≡ get_or (table_of words) i None
  unfolding place_from
  held_read ne = rw (place_at, ne_eqb _ _ ne)

-- ---- what is asked of a place: a port of 0 is no holder
tested : (test : Place → Bool) → test None ≡ false → (port name : ℕ) → test (place_from port name) ≡ (not (eqb port 0) && test (held port name))
unfolding place_from
tested test none port name = by (eqb port 0)
  where
    by : (free : Bool) → test (cond free None (held port name)) ≡ (not free && test (held port name))
    by true = none
    by false = refl

module _ (words : List ℕ) (i : ℕ) (in_table : i < places) where
  asked : (test : Place → Bool) → test None ≡ false → test (get_or (table_of words) i None) ≡ (not (eqb (get_or words (2 * i) 0) 0) && test (held (get_or words (2 * i) 0) (get_or words (2 * i + 1) 0)))
  asked test none = ap test (place_at words i in_table) ∙ tested test none (get_or words (2 * i) 0) (get_or words (2 * i + 1) 0)

  pub by_found : (name : ℕ) → get_or words (2 * i + 1) 0 ≡ name → not (eqb (get_or words (2 * i) 0) 0) ≡ held_by name (get_or (table_of words) i None)
  unfolding held_by
  by_found name e = sym (asked (held_by name) refl ∙ rw (eq-eqb (get_or words (2 * i + 1) 0) name e) (and-true _))

  pub by_absent : (name : ℕ) → (get_or words (2 * i + 1) 0 ≡ name → ⊥) → false ≡ held_by name (get_or (table_of words) i None)
  unfolding held_by
  by_absent name ne = sym (asked (held_by name) refl ∙ rw (ne_eqb (get_or words (2 * i + 1) 0) name ne) (and-false (not (eqb (get_or words (2 * i) 0) 0))))

  pub on_found : (port : ℕ) → get_or words (2 * i) 0 ≡ port → not (eqb port 0) ≡ held_on port (get_or (table_of words) i None)
  unfolding held_on
  on_found port e = sym (asked (held_on port) refl ∙ rw (eq-eqb (get_or words (2 * i) 0) port e, e) (and-true _))

  pub on_absent : (port : ℕ) → (get_or words (2 * i) 0 ≡ port → ⊥) → false ≡ held_on port (get_or (table_of words) i None)
  unfolding held_on
  on_absent port ne = sym (asked (held_on port) refl ∙ rw (ne_eqb (get_or words (2 * i) 0) port ne) (and-false (not (eqb (get_or words (2 * i) 0) 0))))

-- ---- a store: two words stored are a block of two that came back
store_two : (words : List ℕ) (a x y : ℕ) → suc a < length words → set (set words a x) (suc a) y ≡ back a 2 words (x ∷ y ∷ [])
store_two [] a x y h = absurd (not-suc-le-zero h)
store_two (u ∷ []) a x y h = absurd (not-suc-le-zero (le_of_suc-le-suc h))
store_two (u ∷ v ∷ words) zero x y h = refl
store_two (u ∷ v ∷ words) (suc a) x y h = ap {B = List ℕ} (λ l. u ∷ l) (store_two (v ∷ words) a x y (le_of_suc-le-suc h))

pub place_put : (words : List ℕ) (i port name : ℕ) → i < places → length words ≡ table_length → table_of (set (set words (2 * i) port) (2 * i + 1) name) ≡ set (table_of words) i (place_from port name)
unfolding table_of place_of
place_put words i port name in_table long =
    let e : 2 * i ≡ 0 + 2 * i = omega arith in
    rw (add-one (2 * i), store_two words (2 * i) port name (omega arith), e)
    (blocks_set 0 2 words (port ∷ name ∷ []) i refl (omega arith) place_of places in_table)

-- ---- a table of words that are all 0
pub fresh_table : (n : ℕ) → n ≡ table_length → table_of (replicate n 0) ≡ replicate places None
unfolding table_of place_of place_from
fresh_table n e = blocks_filled n 0 place_of 2 0 places (omega arith)
