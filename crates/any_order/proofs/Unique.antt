-- Two settled tables of the same claims are one table, and the unit stands alike in both. Assumes nothing.
use Rattle.std.specs.Prelude.{None}
use mathlib.Core.Path.{◌≡◌, refl, sym, ap, ◌∙◌}
use mathlib.Core.Logic.{⊎_elim}
use mathlib.Core.Bool.{Bool, true, false, true≢false}
use mathlib.Core.List.Memᴰ
use mathlib.Core.List.{List, Memᴰ}
use Prim.Native.Nat.{ℕ, ◌<◌}
use native.Mathlib.Omega.{arith}
use lib.ListN.{length, get_or}
use lib.Seq.{ext_get_or}
use Rattle.addresses.specs.Table.{places, Place}
use Rattle.unit.specs.declared.Claim.{Claim}
use Rattle.unit.specs.declared.Claim.TheVariants.{Unstarted, Claiming, Claimed, Lost}
use Rattle.unit.specs.Own.{holds_address}
use Rattle.any_order.specs.Claimants.{Claimant, with_unit, Lowest, GoesTo, nobody, lowest, Same, Stands, unstarted, keeps, loses}
use Rattle.any_order.specs.AnyOrder.{before_quiet}
use Rattle.any_order.proofs.Lowest.{same_goes, same_with_unit}

-- two lowest claimants of an address have one NAME
one_name : {cs : List Claimant} {a : ℕ} {c d : Claimant} → Lowest cs a c → Lowest cs a d → c.name ≡ d.name
one_name {c = c} {d = d} L M = omega (arith, L.low d M.among M.here, M.low c L.among L.here)

module _ (name preferred : ℕ) (cs : List Claimant) (one_port : (c d : Claimant) → Memᴰ c cs → Memᴰ d cs → c.name ≡ d.name → c.port ≡ d.port)
    (others : (c : Claimant) → Memᴰ c cs → c.name ≡ name → ⊥) where
  -- and so one port, the unit none
  same_port : (b : Bool) (c d : Claimant) → Memᴰ c (with_unit b name preferred cs) → Memᴰ d (with_unit b name preferred cs) → c.name ≡ d.name
      → c.port ≡ d.port
  same_port false c d m n e = one_port c d m n e
  same_port true c d m n e =
      ⊎_elim
      (λ u. ⊎_elim (λ w. ap (λ x. x.port) u ∙ sym (ap (λ x. x.port) w)) (λ h. absurd (others d h (sym e ∙ ap (λ x. x.name) u))) (Memᴰ.cases_cons n))
      (λ h. ⊎_elim (λ w. absurd (others c h (e ∙ ap (λ x. x.name) w))) (λ k. one_port c d h k e) (Memᴰ.cases_cons n))
      (Memᴰ.cases_cons m)

  one_place : (b : Bool) {a : ℕ} {p q : Place} → GoesTo (with_unit b name preferred cs) a p → GoesTo (with_unit b name preferred cs) a q → p ≡ q
  one_place b (nobody n) (nobody m) = refl
  one_place b (nobody n) (lowest d M) = absurd (n d M.among M.here)
  one_place b (lowest c L) (nobody m) = absurd (m c L.among L.here)
  one_place b (lowest c L) (lowest d M) =
      let e = one_name L M in
      rw (e, same_port b c d L.among M.among e)

  pub one_table : (b : Bool) {cs' : List Claimant} (t t' : List Place) → Same cs' cs → length t ≡ places → length t' ≡ places
      → ((a : ℕ) → a < places → GoesTo (with_unit b name preferred cs) a (get_or t a None))
      → ((a : ℕ) → a < places → GoesTo (with_unit b name preferred cs') a (get_or t' a None)) → t ≡ t'
  one_table b t t' s long long' goes goes' =
      ext_get_or None t t' (long ∙ sym long')
      (λ a h. one_place b (goes a (omega arith)) (same_goes (same_with_unit b name preferred s) (goes' a (omega arith))))

-- ---- the unit
kept : (claim : Claim) → holds_address claim ≡ true → before_quiet claim ≡ Claiming
kept Unstarted h = absurd (true≢false (sym h))
kept Claiming h = refl
kept Claimed h = refl
kept Lost h = absurd (true≢false (sym h))

pub stands_alike : {name preferred : ℕ} {cs cs' : List Claimant} {b : Bool} {claim claim' : Claim} {address address' : ℕ} → Same cs cs'
    → Stands name preferred cs b claim address → Stands name preferred cs' b claim' address' → (before_quiet claim ≡ before_quiet claim') × (address ≡ address')
stands_alike s unstarted unstarted = (refl, refl)
stands_alike s (keeps claim h L) (keeps claim' h' L') = (kept claim h ∙ sym (kept claim' h'), refl)
stands_alike s (keeps claim h L) (loses c m at low) = absurd (omega (arith, L.low c (Memᴰ.tail (s.back c m)) at))
stands_alike s (loses c m at low) (keeps claim h L) = absurd (omega (arith, L.low c (Memᴰ.tail (s.there c m)) at))
stands_alike s (loses c m at low) (loses d n at' low') = (refl, refl)
