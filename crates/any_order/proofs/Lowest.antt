-- Whom an address goes to when one more claims, or the same claim in another order. Assumes nothing.
use Rattle.addresses.specs.Table.{Place}
use mathlib.Core.Path.{◌≡◌, refl, ◌∙◌}
use mathlib.Core.Logic.{◌⊎◌, inl, inr, ⊎_elim}
use mathlib.Core.Bool.{Bool, true, false}
use mathlib.Core.List.Memᴰ
use mathlib.Core.List.Permᴰ
use mathlib.Core.List.{List, [], ◌∷◌, ◌++◌, Memᴰ, Permᴰ}
use Prim.Native.Nat.{ℕ, ◌≤◌}
use native.Mathlib.Omega.{arith}
use Rattle.any_order.specs.Claimants.{Claimant, the_unit, with_unit, recorded, Lowest, GoesTo, nobody, lowest, Same}

-- ---- one more claimant
pub record Grown (cs : List Claimant) (c : Claimant) (cs' : List Claimant) : Type 0 where
  pub old : (d : Claimant) → Memᴰ d cs → Memᴰ d cs'
  pub new : Memᴰ c cs'
  pub only : (d : Claimant) → Memᴰ d cs' → Memᴰ d cs ⊎ (d ≡ c)

pub grown_behind : (cs : List Claimant) (c : Claimant) → Grown cs c (cs ++ (c ∷ []))
grown_behind cs c = record {
  old = λ d m. Memᴰ.append_left (c ∷ []) m;
  new = Memᴰ.append_right cs (Memᴰ.head refl);
  only = λ d m. ⊎_elim (λ h. inl h) (λ h. inr (Memᴰ.eq_of_singleton h)) (Memᴰ.append_cases cs m);
}

pub grown_by_unit : (name preferred : ℕ) (cs : List Claimant) → Grown cs (the_unit name preferred) (with_unit true name preferred cs)
grown_by_unit name preferred cs = record {
  old = λ d m. Memᴰ.tail m;
  new = Memᴰ.head refl;
  only = λ d m. ⊎_elim (λ h. inr h) (λ h. inl h) (Memᴰ.cases_cons m);
}

-- the unit is one more either way
pub grown_with_unit : (b : Bool) (name preferred : ℕ) {cs cs' : List Claimant} {c : Claimant} → Grown cs c cs'
    → Grown (with_unit b name preferred cs) c (with_unit b name preferred cs')
grown_with_unit false name preferred g = g
grown_with_unit true name preferred {cs} {cs'} {c} g = record {
  old = λ d m. ⊎_elim (λ e. Memᴰ.head e) (λ h. Memᴰ.tail (g.old d h)) (Memᴰ.cases_cons m);
  new = Memᴰ.tail g.new;
  only = λ d m. ⊎_elim (λ e. inl (Memᴰ.head e)) (λ h. ⊎_elim (λ o. inl (Memᴰ.tail o)) (λ e. inr e) (g.only d h)) (Memᴰ.cases_cons m);
}

module _ {cs cs' : List Claimant} {c : Claimant} (g : Grown cs c cs') where
  -- one that is no lower than the new one's NAME at its address stays the lowest
  pub lowest_stays : {a : ℕ} {d : Claimant} → Lowest cs a d → (c.address ≡ a → d.name ≤ c.name) → Lowest cs' a d
  lowest_stays {a} {d} L h = record {
    among = g.old d L.among;
    here = L.here;
    low = λ e m at. ⊎_elim (λ o. L.low e o at) (λ s. rw s (h (rw s at at))) (g.only e m);
  }

  -- a claim of another address
  pub elsewhere : {a : ℕ} {p : Place} → (c.address ≡ a → ⊥) → GoesTo cs a p → GoesTo cs' a p
  elsewhere ne (nobody n) = nobody (λ d m at. ⊎_elim (λ o. n d o at) (λ s. ne (rw s at at)) (g.only d m))
  elsewhere ne (lowest d L) = lowest d (lowest_stays L (λ e. absurd (ne e)))

  -- the new one is the lowest
  pub lowest_now : {a : ℕ} → c.address ≡ a → ((d : Claimant) → Memᴰ d cs → d.address ≡ a → c.name ≤ d.name) → Lowest cs' a c
  lowest_now here h = record { among = g.new; here = here; low = λ d m at. ⊎_elim (λ o. h d o at) (λ s. rw s (omega arith)) (g.only d m) }

  pub lower : {a : ℕ} → c.address ≡ a → ((d : Claimant) → Memᴰ d cs → d.address ≡ a → c.name ≤ d.name) → GoesTo cs' a (recorded c)
  lower here h = lowest c (lowest_now here h)

-- ---- the same claims
pub turned : {cs cs' : List Claimant} → Same cs cs' → Same cs' cs
turned s = record { there = s.back; back = s.there }

pub same_lowest : {cs cs' : List Claimant} {a : ℕ} {c : Claimant} → Same cs cs' → Lowest cs a c → Lowest cs' a c
same_lowest {c = c} s L = record { among = s.there c L.among; here = L.here; low = λ d m at. L.low d (s.back d m) at }

pub same_goes : {cs cs' : List Claimant} {a : ℕ} {p : Place} → Same cs cs' → GoesTo cs a p → GoesTo cs' a p
same_goes s (nobody n) = nobody (λ c m at. n c (s.back c m) at)
same_goes s (lowest c L) = lowest c (same_lowest s L)

pub same_with_unit : (b : Bool) (name preferred : ℕ) {cs cs' : List Claimant} → Same cs cs' → Same (with_unit b name preferred cs) (with_unit b name preferred cs')
same_with_unit false name preferred s = s
same_with_unit true name preferred {cs} {cs'} s = record { there = more cs cs' s.there; back = more cs' cs s.back }
  where
    more : (xs ys : List Claimant) → ((c : Claimant) → Memᴰ c xs → Memᴰ c ys) → (c : Claimant) → Memᴰ c (the_unit name preferred ∷ xs)
        → Memᴰ c (the_unit name preferred ∷ ys)
    more xs ys h c m = ⊎_elim (λ e. Memᴰ.head e) (λ t. Memᴰ.tail (h c t)) (Memᴰ.cases_cons m)

-- an order of the same claims
perm_mem : {cs cs' : List Claimant} → Permᴰ cs cs' → (c : Claimant) → Memᴰ c cs → Memᴰ c cs'
perm_mem Permᴰ.nil c m = m
perm_mem (Permᴰ.cons e p) c m = ⊎_elim (λ h. Memᴰ.head (h ∙ e)) (λ t. Memᴰ.tail (perm_mem p c t)) (Memᴰ.cases_cons m)
perm_mem (Permᴰ.swap e f) c m =
    ⊎_elim
    (λ h. Memᴰ.tail (Memᴰ.head (h ∙ e)))
    (λ t. ⊎_elim (λ h. Memᴰ.head (h ∙ f)) (λ u. Memᴰ.tail (Memᴰ.tail u)) (Memᴰ.cases_cons t))
    (Memᴰ.cases_cons m)
perm_mem (Permᴰ.trans p q) c m = perm_mem q c (perm_mem p c m)

pub same_in_order : {cs cs' : List Claimant} → Permᴰ cs cs' → Same cs cs'
same_in_order p = record { there = perm_mem p; back = perm_mem (Permᴰ.symm p) }
