-- The address list: it rises, holds exactly the addresses on that port but the one left out, and depends on which places are held on that port alone.
-- Assumes nothing.
use Rattle.std.specs.Prelude.{None}
use mathlib.Core.Path.{◌≡◌, refl, sym, ◌∙◌}
use mathlib.Core.Logic.{◌⊎◌, inl, inr, ⊎_elim}
use mathlib.Core.Bool.{Bool, true, false, cond, and-true}
use mathlib.Core.List.{List, [], ◌∷◌, ◌++◌, append-nil}
use Prim.Native.Nat.{ℕ, zero, suc, ◌<◌}
use native.Mathlib.Nat.{not-suc-le-zero}
use native.Mathlib.Decide.{dec_lt, ℕ_discrete}
use native.Mathlib.Omega.{arith}
use borrow.Author.Tests.{ne_eqb}
use lib.ListN.{length, get_or, length-append, get_or-append}
use lib.Seq.{get_or_at}
use Rattle.addresses.specs.Table.{places, held_on, below, is_listed, addresses_on, Place}

-- ---- the numbers below n that pass a test
-- they depend on the test alone
pub below_same : (test other : ℕ → Bool) (n : ℕ) → ((i : ℕ) → i < n → test i ≡ other i) → below test n ≡ below other n
unfolding below
below_same test other zero same = refl
below_same test other (suc n) same =
    rw (below_same test other n (λ i h. same i (omega arith)), same n (omega arith))

-- one more number, if it passes: what stands at k stood there before, or is that number, at the end
last_or_before : (xs : List ℕ) (b : Bool) (x k : ℕ) → k < length (xs ++ cond b (x ∷ []) []) → ((k < length xs) × (get_or (xs ++ cond b (x ∷ []) []) k 0 ≡ get_or xs k 0)) ⊎ ((b ≡ true) × (k ≡ length xs) × (get_or (xs ++ cond b (x ∷ []) []) k 0 ≡ x))
last_or_before xs true x k h =
    elim (dec_lt k (length xs)) [
      | yes l ↦ inl (l, get_or-append xs (x ∷ []) 0 k l)
      | no l ↦
          let e : k ≡ length xs = omega (arith, length-append xs (x ∷ [])) in
          inr (refl, e, get_or_at xs x [] 0 k (sym e))
    ]
last_or_before xs false x k h = rw (append-nil xs) (inl ((rw (append-nil xs) at h), refl))

-- each is below n and passes
pub below_sound : (test : ℕ → Bool) (n k : ℕ) → k < length (below test n) → (get_or (below test n) k 0 < n) × (test (get_or (below test n) k 0) ≡ true)
unfolding below
below_sound test zero k h = absurd (not-suc-le-zero h)
below_sound test (suc n) k h =
    ⊎_elim
    (λ w. let r = below_sound test n k w.0 in rw w.1 (omega arith, r.1))
    (λ w. rw w.2 (omega arith, w.0))
    (last_or_before (below test n) (test n) n k h)

-- they rise
pub below_rises : (test : ℕ → Bool) (n i j : ℕ) → i < j → j < length (below test n) → get_or (below test n) i 0 < get_or (below test n) j 0
unfolding below
below_rises test zero i j h l = absurd (not-suc-le-zero l)
below_rises test (suc n) i j h l =
    let more = cond (test n) (n ∷ []) [] in
    ⊎_elim
    (λ w. rw (get_or-append (below test n) more 0 i (omega arith), w.1) (below_rises test n i j h w.0))
    (λ w. rw (get_or-append (below test n) more 0 i (omega arith), w.2) (below_sound test n i (omega arith)).0)
    (last_or_before (below test n) (test n) n j l)

-- each that is below n and passes is among them
pub below_complete : (test : ℕ → Bool) (n x : ℕ) → x < n → test x ≡ true → (k : ℕ) × (k < length (below test n)) × (get_or (below test n) k 0 ≡ x)
unfolding below
below_complete test zero x h t = absurd (not-suc-le-zero h)
below_complete test (suc n) x h t =
    elim (ℕ_discrete x n) [
      | yes e ↦
          let b : test n ≡ true = rw e at t in
          rw b (length (below test n), omega (arith, length-append (below test n) (n ∷ [])), get_or_at (below test n) n [] 0 (length (below test n)) refl ∙ sym e)
      | no ne ↦
          let r = below_complete test n x (omega arith) t in
          let more = cond (test n) (n ∷ []) [] in
          (r.0, omega (arith, r.1, length-append (below test n) more), get_or-append (below test n) more 0 r.0 r.1 ∙ r.2)
    ]

-- so the numbers tell the test
passes_too : (test other : ℕ → Bool) (n : ℕ) → below test n ≡ below other n → (x : ℕ) → x < n → test x ≡ true → other x ≡ true
passes_too test other n same x h t =
    let r = below_complete test n x h t in
    let k : r.0 < length (below other n) = rw same at r.1 in
    let e : get_or (below other n) r.0 0 ≡ x = rw same at r.2 in
    rw e at (below_sound other n r.0 k).1

both_ways : (a b : Bool) → (a ≡ true → b ≡ true) → (b ≡ true → a ≡ true) → a ≡ b
both_ways true b f g = sym (f refl)
both_ways false true f g = g refl
both_ways false false f g = refl

pub below_tells : (test other : ℕ → Bool) (n : ℕ) → below test n ≡ below other n → (x : ℕ) → x < n → test x ≡ other x
below_tells test other n same x h = both_ways (test x) (other x) (passes_too test other n same x h) (passes_too other test n (sym same) x h)

-- ---- the addresses on a port
-- where no address is left out, the list tells which places are held on the port
pub list_tells : (port : ℕ) (table other : List Place) → addresses_on port places table ≡ addresses_on port places other → (i : ℕ) → i < places → held_on port (get_or table i None) ≡ held_on port (get_or other i None)
unfolding addresses_on is_listed
list_tells port table other same i h =
    sym (all table) ∙ below_tells (is_listed port places table) (is_listed port places other) places same i h ∙ all other
  where
    all : (table : List Place) → is_listed port places table i ≡ held_on port (get_or table i None)
    all table = rw (ne_eqb i places (λ e. omega arith)) (and-true (held_on port (get_or table i None)))

module _ (port except : ℕ) where
  -- they depend on which places are held on that port alone
  pub list_same : (table other : List Place) → ((i : ℕ) → i < places → held_on port (get_or table i None) ≡ held_on port (get_or other i None)) → addresses_on port except table ≡ addresses_on port except other
  unfolding addresses_on is_listed
  list_same table other same = below_same (is_listed port except table) (is_listed port except other) places (λ i h. rw (same i h))

  module _ (table : List Place) where
    pub list_rises : (i j : ℕ) → i < j → j < length (addresses_on port except table) → get_or (addresses_on port except table) i 0 < get_or (addresses_on port except table) j 0
    unfolding addresses_on
    list_rises i j h l = below_rises (is_listed port except table) places i j h l

    pub list_sound : (k : ℕ) → k < length (addresses_on port except table) → (get_or (addresses_on port except table) k 0 < places) × (is_listed port except table (get_or (addresses_on port except table) k 0) ≡ true)
    unfolding addresses_on
    list_sound k h = below_sound (is_listed port except table) places k h

    pub list_complete : (address : ℕ) → address < places → is_listed port except table address ≡ true → (k : ℕ) × (k < length (addresses_on port except table)) × (get_or (addresses_on port except table) k 0 ≡ address)
    unfolding addresses_on
    list_complete address h t = below_complete (is_listed port except table) places address h t
