-- The halving rule, probe by probe, and the loop that keeps to it. Assumes nothing.
use mathlib.Core.Path.{◌≡◌, refl, sym, ◌∙◌}
use mathlib.Core.Bool.{Bool, true, false, cond}
use mathlib.Core.List.{List}
use Prim.Native.Nat.{ℕ, zero, suc, ◌+◌, ◌-◌, ◌/◌, ◌≤◌, ◌<◌}
use native.Mathlib.Omega.{arith}
use borrow.Author.Tests.{eq-eqb, ne_eqb, lt-ltb, le-ltb, ltb-true, ltb-false}
use lib.Dec.{eqb, ltb}
use lib.ListN.{length, get_or}
use Rattle.sorted_list.specs.SortedList.{Probed, probed, more, middle, halving_in, halving, halved}

-- any number not below that of the places left will do
enough : (k j : ℕ) (list : List ℕ) (x lo hi : ℕ) → hi - lo ≤ k → hi - lo ≤ j → halving_in k list x lo hi ≡ halving_in j list x lo hi
unfolding halving_in
enough zero zero list x lo hi h g = refl
enough zero (suc j) list x lo hi h g = rw (le-ltb lo hi (omega arith))
enough (suc k) zero list x lo hi h g = rw (le-ltb lo hi (omega arith))
enough (suc k) (suc j) list x lo hi h g =
    rw (enough k j list x (suc (middle lo hi)) hi (omega arith) (omega arith), enough k j list x lo (middle lo hi) (omega arith) (omega arith))

-- no place left: not found, no probe
pub halving_none : (list : List ℕ) (x lo hi : ℕ) → hi ≤ lo → halving list x lo hi ≡ probed false 0
unfolding halving_in
halving_none list x lo hi h = enough (hi - lo) 0 list x lo hi (omega arith) (omega arith)

-- the middle one ends it, or leaves the places behind it or before it
pub halving_one : (list : List ℕ) (x lo hi : ℕ) → lo < hi
    → halving list x lo hi ≡ cond (eqb (get_or list (middle lo hi) 0) x) (probed true 1) (cond (ltb (get_or list (middle lo hi) 0) x) (more (halving list x (suc (middle lo hi)) hi)) (more (halving list x lo (middle lo hi))))
unfolding halving_in
halving_one list x lo hi h =
    enough (hi - lo) (suc (hi - lo - 1)) list x lo hi (omega arith) (omega arith)
    ∙ rw (
      lt-ltb lo hi h,
      enough (hi - lo - 1) (hi - suc (middle lo hi)) list x (suc (middle lo hi)) hi (omega arith) (omega arith),
      enough (hi - lo - 1) (middle lo hi - lo) list x lo (middle lo hi) (omega arith) (omega arith),
    )

-- ---- the loop: what was probed so far, and then the places left
abbrev after : ℕ → Probed → Probed
after n p = probed p.found (n + p.probes)

pub record Going (list : List ℕ) (x lo hi probes : ℕ) : Type 0 where
  pub value : halved x list ≡ after probes (halving list x lo hi)
  pub few : probes + (hi - lo) ≤ length list
  pub order : lo ≤ hi
  pub inside : hi ≤ length list

start : (list : List ℕ) (x : ℕ) → Going list x 0 (length list) 0
unfolding halved
start list x = record { value = none_before (halving list x 0 (length list)); few = omega arith; order = omega arith; inside = omega arith }
  where
    none_before : (p : Probed) → p ≡ after 0 p
    none_before p = let e : 0 + p.probes ≡ p.probes = omega arith in rw e

-- one probe more was made before
one_more_lem : (n : ℕ) (p : Probed) → after n (more p) ≡ after (n + 1) p
one_more_lem n p = let e : n + suc p.probes ≡ n + 1 + p.probes = omega arith in rw e

module _ {list : List ℕ} {x lo hi probes : ℕ} (G : Going list x lo hi probes) where
  module _ (turn : lo < hi) where
    probe_found : get_or list (middle lo hi) 0 ≡ x → probed true (probes + 1) ≡ halved x list
    probe_found e = sym (G.value ∙ rw (halving_one list x lo hi turn, eq-eqb (get_or list (middle lo hi) 0) x e))

    probe_right : (get_or list (middle lo hi) 0 ≡ x → ⊥) → get_or list (middle lo hi) 0 < x → Going list x (middle lo hi + 1) hi (probes + 1)
    probe_right ne l =
        let s : suc (middle lo hi) ≡ middle lo hi + 1 = omega arith in
        record {
          value =
              G.value
              ∙ rw (halving_one list x lo hi turn, ne_eqb (get_or list (middle lo hi) 0) x ne, lt-ltb (get_or list (middle lo hi) 0) x l, s)
              (one_more_lem probes (halving list x (middle lo hi + 1) hi));
          few = omega (arith, G.few);
          order = omega arith;
          inside = G.inside;
        }

    probe_left : (get_or list (middle lo hi) 0 ≡ x → ⊥) → x ≤ get_or list (middle lo hi) 0 → Going list x lo (middle lo hi) (probes + 1)
    probe_left ne l = record {
      value =
          G.value
          ∙ rw (halving_one list x lo hi turn, ne_eqb (get_or list (middle lo hi) 0) x ne, le-ltb (get_or list (middle lo hi) 0) x l)
          (one_more_lem probes (halving list x lo (middle lo hi)));
      few = omega (arith, G.few);
      order = omega arith;
      inside = omega (arith, G.inside);
    }

  -- none left
  none_left : hi ≤ lo → probed false probes ≡ halved x list
  none_left h = let e : probes + 0 ≡ probes = omega arith in sym (G.value ∙ rw (halving_none list x lo hi h, e))

-- ---- the places left by their number, and the middle one by its distance from the first
moved : {list : List ℕ} {x lo hi lo' hi' probes : ℕ} → lo ≡ lo' → hi ≡ hi' → Going list x lo' hi' probes → Going list x lo hi probes
moved e f G = rw (e, f) G

abbrev pub Unprobed : List ℕ → ℕ → ℕ → ℕ → ℕ → Type 0
Unprobed list x lo left probes = Going list x lo (lo + left) probes

pub unprobed_all : (list : List ℕ) (x : ℕ) → Unprobed list x 0 (length list) 0
unprobed_all list x = moved (omega arith) (omega arith) (start list x)

module _ {list : List ℕ} {x lo left probes : ℕ} (G : Unprobed list x lo left probes) where
  pub unprobed_none : left ≡ 0 → probed false probes ≡ halved x list
  unprobed_none h = none_left G (omega arith)

  module _ (turn : 0 < left) where
    mid : middle lo (lo + left) ≡ lo + (left - 1) / 2
    mid = omega arith

    pub unprobed_found : get_or list (lo + (left - 1) / 2) 0 ≡ x → probed true (probes + 1) ≡ halved x list
    unprobed_found e = probe_found G (omega arith) (rw mid e)

    module _ {a b : ℕ} (up : get_or list (lo + (left - 1) / 2) 0 < x → a ≡ (left - 1) / 2 + 1) (stay : x ≤ get_or list (lo + (left - 1) / 2) 0 → a ≡ 0)
        (one : get_or list (lo + (left - 1) / 2) 0 < x → b ≡ 1) (none : x ≤ get_or list (lo + (left - 1) / 2) 0 → b ≡ 0) where
      pub unprobed_on : (get_or list (lo + (left - 1) / 2) 0 ≡ x → ⊥) → Unprobed list x (lo + a) ((left - 1 + b) / 2) (probes + 1)
      unprobed_on ne = go (ltb y x) refl
        where
          y : ℕ
          y = get_or list (lo + (left - 1) / 2) 0

          go : (c : Bool) → ltb y x ≡ c → Unprobed list x (lo + a) ((left - 1 + b) / 2) (probes + 1)
          go true l =
              let h = ltb-true y x l in
              let e = up h in
              let f = one h in
              moved (omega arith) (omega arith) (probe_right G (omega arith) (rw mid ne) (rw mid h))
          go false l =
              let h = ltb-false y x l in
              let e = stay h in
              let f = none h in
              moved (omega arith) (omega arith) (probe_left G (omega arith) (rw mid ne) (rw mid h))
