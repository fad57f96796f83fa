-- "at most 6 for each plain list": fewer than 2^k places take at most k probes, whatever stands in them. Assumes nothing.
use mathlib.Core.Path.{◌≡◌, refl, ap, ◌∙◌}
use mathlib.Core.Bool.{Bool, true, false, cond}
use mathlib.Core.List.{List}
use Prim.Native.Nat.{ℕ, zero, suc, ◌-◌, ◌^◌, ◌≤◌, ◌<◌, zero-le}
use native.Mathlib.Nat.{pow-suc}
use native.Mathlib.Omega.{arith}
use borrow.Author.Tests.{ltb-true, lt-ltb, ne_eqb}
use lib.Dec.{eqb, ltb}
use lib.ListN.{length, get_or}
use Rattle.pgn_list.specs.PgnList.{list_size}
use Rattle.sorted_list.specs.SortedList.{Probed, Finding, probed, more, middle, halving_in, halving, halved, most_probes}
use Rattle.sorted_list.proofs.Halving.{halving_none, halving_one}

-- one probe and what is left on either side
step : (j : ℕ) (b c d : Bool) (p q : Probed) → p.probes ≤ j → q.probes ≤ j → (cond {A = Probed} b (cond c (probed true 1) (cond d (more p) (more q))) (probed false 0)).probes ≤ suc j
step j true true d p q h i = omega arith
step j true false true p q h i = omega (arith, h)
step j true false false p q h i = omega (arith, i)
step j false c d p q h i = zero-le

-- nothing is left
empty : (b : Bool) (p : Probed) → (b ≡ true → ⊥) → (cond {A = Probed} b p (probed false 0)).probes ≤ 0
empty true p h = absurd (h refl)
empty false p h = zero-le

few : (k j : ℕ) (list : List ℕ) (x lo hi : ℕ) → hi - lo < 2 ^ j → (halving_in k list x lo hi).probes ≤ j
unfolding halving_in
few zero j list x lo hi h = zero-le
few (suc k) zero list x lo hi h = empty (ltb lo hi) (cond (eqb (get_or list (middle lo hi) 0) x) (probed true 1) (cond (ltb (get_or list (middle lo hi) 0) x) (more (halving_in k list x (suc (middle lo hi)) hi)) (more (halving_in k list x lo (middle lo hi))))) (λ e. omega (arith, ltb-true lo hi e, h))
few (suc k) (suc j) list x lo hi h =
    step j (ltb lo hi) (eqb (get_or list (middle lo hi) 0) x) (ltb (get_or list (middle lo hi) 0) x) (halving_in k list x (suc (middle lo hi)) hi) (halving_in k list x lo (middle lo hi))
    (few k j list x (suc (middle lo hi)) hi (omega (arith, h, pow-suc 2 j)))
    (few k j list x lo (middle lo hi) (omega (arith, h, pow-suc 2 j)))

-- a list of at most 32, in order or not
pub ceiling : (x : ℕ) (list : List ℕ) → length list ≤ list_size → (halved x list).probes ≤ most_probes
unfolding halved
ceiling x list h = few (length list - 0) 6 list x 0 (length list) (omega (arith, h))

-- and 6 are taken where x is above all of 32
module _ (x : ℕ) (list : List ℕ) (above : (i : ℕ) → i < list_size → get_or list i 0 < x) where
  on : (lo hi at : ℕ) → lo < hi → middle lo hi ≡ at → at < list_size → halving list x lo hi ≡ more (halving list x (suc at) hi)
  on lo hi at turn e h =
      let l = above at h in
      halving_one list x lo hi turn ∙ rw (e, ne_eqb (get_or list at 0) x (λ q. omega arith), lt-ltb (get_or list at 0) x l)

  pub ceiling_met : length list ≡ list_size → (halved x list).probes ≡ most_probes
  unfolding halved
  ceiling_met long =
      rw long
      (ap (λ p. p.probes) (on 0 32 15 (omega arith) refl (omega arith))
      ∙ ap (λ p. suc p.probes) (on 16 32 23 (omega arith) refl (omega arith))
      ∙ ap (λ p. suc (suc p.probes)) (on 24 32 27 (omega arith) refl (omega arith))
      ∙ ap (λ p. suc (suc (suc p.probes))) (on 28 32 29 (omega arith) refl (omega arith))
      ∙ ap (λ p. suc (suc (suc (suc p.probes)))) (on 30 32 30 (omega arith) refl (omega arith))
      ∙ ap (λ p. suc (suc (suc (suc (suc p.probes))))) (on 31 32 31 (omega arith) refl (omega arith))
      ∙ ap (λ p. suc (suc (suc (suc (suc (suc p.probes)))))) (halving_none list x 32 32 (omega arith)))

-- what a search tells
pub told : {list : List ℕ} {x probes : ℕ} {found : Bool} → length list ≤ list_size → probed found probes ≡ halved x list → Finding list x found probes
told {list} {x} fits e = record { answer = e; few = omega (arith, ap (λ p. p.probes) e, ceiling x list fits) }
