-- In rising order halving finds a PGN exactly if it is listed: where it stands, it stands among the places left. Assumes nothing.
use mathlib.Core.Path.{◌≡◌, refl, sym}
use mathlib.Core.Bool.{Bool, true, false, cond, ◌||◌}
use mathlib.Core.List.{List, [], ◌∷◌}
use Prim.Native.Nat.{ℕ, zero, suc, ◌-◌, ◌≤◌, ◌<◌, zero-le}
use native.Mathlib.Nat.{not-suc-le-zero, le_of_suc-le-suc}
use native.Mathlib.Omega.{arith}
use borrow.Author.Tests.{eq-eqb, ne_eqb, eqb-true, eqb-false, ltb-true, ltb-false}
use lib.Dec.{eqb, ltb}
use lib.ListN.{length, get_or}
use Rattle.checks.proofs.Tests.{both}
use Rattle.entries.specs.Entries.{listed, every}
use Rattle.entries.proofs.Leading.{every_at}
use Rattle.sorted_list.specs.SortedList.{Probed, probed, more, middle, halving_in, halved, rising, Rising}

-- ---- places in a list that rises
pub rising_at : (xs : List ℕ) (i j : ℕ) → Rising xs → i < j → j < length xs → get_or xs i 0 < get_or xs j 0
unfolding rising
rising_at [] i j h l k = absurd (not-suc-le-zero k)
rising_at (x ∷ xs) i zero h l k = absurd (not-suc-le-zero l)
rising_at (x ∷ xs) zero (suc j) h l k =
    ltb-true x (get_or xs j 0) (every_at (λ y. ltb x y) xs j (both (every (λ y. ltb x y) xs) (rising xs) h).0 (le_of_suc-le-suc k))
rising_at (x ∷ xs) (suc i) (suc j) h l k = rising_at xs i j (both (every (λ y. ltb x y) xs) (rising xs) h).1 (le_of_suc-le-suc l) (le_of_suc-le-suc k)

-- the lower of two stands before the higher
before : (xs : List ℕ) (i j : ℕ) → Rising xs → i < length xs → get_or xs i 0 < get_or xs j 0 → i < j
before xs i j h k l = go (ltb i j) (ltb j i) refl refl
  where
    go : (b c : Bool) → ltb i j ≡ b → ltb j i ≡ c → i < j
    go true c e f = ltb-true i j e
    go false true e f = absurd (omega (arith, rising_at xs j i h (ltb-true j i f) k))
    go false false e f = let q : i ≡ j = omega (arith, ltb-false i j e, ltb-false j i f) in absurd (omega (arith, rw q at l))

-- ---- what is listed stands somewhere
pub here : (x : ℕ) (xs : List ℕ) (i : ℕ) → i < length xs → get_or xs i 0 ≡ x → listed x xs ≡ true
unfolding listed
here x [] i h e = absurd (not-suc-le-zero h)
here x (y ∷ ys) zero h e = rw (eq-eqb y x e)
here x (y ∷ ys) (suc i) h e = rw (here x ys i (le_of_suc-le-suc h) e) (go (eqb y x))
  where
    go : (b : Bool) → (b || true) ≡ true
    go true = refl
    go false = refl

nowhere : (x : ℕ) (xs : List ℕ) → ((i : ℕ) → i < length xs → get_or xs i 0 ≡ x → ⊥) → listed x xs ≡ false
unfolding listed
nowhere x [] n = refl
nowhere x (y ∷ ys) n = rw (ne_eqb y x (λ e. n zero (omega arith) e)) (nowhere x ys (λ i h e. n (suc i) (omega arith) e))

-- ---- halving: x stands among the places from lo up to hi, if at all
abbrev Within : List ℕ → ℕ → ℕ → ℕ → Type 0
Within xs x lo hi = (i : ℕ) → i < length xs → get_or xs i 0 ≡ x → (lo ≤ i) × (i < hi)

module _ (xs : List ℕ) (x lo hi : ℕ) (h : Rising xs) (fits : hi ≤ length xs) (w : Within xs x lo hi) where
  probe : (p q : Probed) → (Within xs x (suc (middle lo hi)) hi → p.found ≡ listed x xs) → (lo < hi → Within xs x lo (middle lo hi) → q.found ≡ listed x xs)
      → (a b c : Bool) → ltb lo hi ≡ a → eqb (get_or xs (middle lo hi) 0) x ≡ b → ltb (get_or xs (middle lo hi) 0) x ≡ c
      → (cond {A = Probed} a (cond b (probed true 1) (cond c (more p) (more q))) (probed false 0)).found ≡ listed x xs
  probe p q right left true true c e f g = sym (here x xs (middle lo hi) (omega (arith, ltb-true lo hi e)) (eqb-true (get_or xs (middle lo hi) 0) x f))
  probe p q right left true false true e f g =
      right (λ i k d. (before xs (middle lo hi) i h (omega (arith, ltb-true lo hi e)) (omega (arith, ltb-true (get_or xs (middle lo hi) 0) x g)), (w i k d).1))
  probe p q right left true false false e f g =
      left (ltb-true lo hi e) (λ i k d. ((w i k d).0, before xs i (middle lo hi) h k (omega (arith, ltb-false (get_or xs (middle lo hi) 0) x g, eqb-false (get_or xs (middle lo hi) 0) x f))))
  probe p q right left false b c e f g = sym (nowhere x xs (λ i k d. let r = w i k d in omega (arith, ltb-false lo hi e, r.0, r.1)))

found_in : (k : ℕ) (xs : List ℕ) (x lo hi : ℕ) → Rising xs → hi ≤ length xs → hi - lo ≤ k → Within xs x lo hi → (halving_in k xs x lo hi).found ≡ listed x xs
unfolding halving_in
found_in zero xs x lo hi h fits few w = sym (nowhere x xs (λ i k d. let r = w i k d in omega (arith, r.0, r.1)))
found_in (suc k) xs x lo hi h fits few w =
    probe xs x lo hi h fits w (halving_in k xs x (suc (middle lo hi)) hi) (halving_in k xs x lo (middle lo hi))
    (λ v. found_in k xs x (suc (middle lo hi)) hi h fits (omega arith) v)
    (λ l v. found_in k xs x lo (middle lo hi) h (omega arith) (omega arith) v)
    (ltb lo hi) (eqb (get_or xs (middle lo hi) 0) x) (ltb (get_or xs (middle lo hi) 0) x) refl refl refl

pub found_listed : (x : ℕ) (xs : List ℕ) → Rising xs → (halved x xs).found ≡ listed x xs
unfolding halved
found_listed x xs h = found_in (length xs - 0) xs x 0 (length xs) h (omega arith) (omega arith) (λ i k d. (zero-le, k))
