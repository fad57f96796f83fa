-- Where the pair from a port to another stands among the pairs from it, and where a pair leads. Assumes nothing.
use mathlib.Core.Path.{◌≡◌, refl, sym, ap}
use mathlib.Core.Bool.{Bool, true, false, cond, not, ◌&&◌, ◌||◌}
use Prim.Native.Nat.{ℕ, suc, ◌+◌, ◌-◌, ◌≤◌, ◌<◌}
use native.Mathlib.Omega.{arith}
use borrow.Author.Tests.{eq-eqb, ne_eqb, lt-ltb, le-ltb, eqb-true, eqb-false, ltb-true, ltb-false, le-leb}
use lib.Dec.{eqb, ltb}
use Rattle.checks.proofs.Ports.{port_bounds}
use Rattle.checks.specs.Ports.{is_port}
use Rattle.network_message.specs.Decoding.{all_ports}
use Rattle.network_message.specs.Commands.{reaches}
use Rattle.unit.specs.Model.{pair_at}
use Rattle.list_commands.specs.Commands.{IsPair, target_of, first_pair, names}

-- which of the pairs from port a leads to port b
abbrev pub rank : ℕ → ℕ → ℕ
rank a b = cond (ltb (b - 1) (a - 1)) (b - 1) (b - 1 - 1)

module _ (ports a b : ℕ) (P : IsPair ports a b) where
  pub at_is : pair_at ports (a - 1) (b - 1) ≡ first_pair ports a + rank a b
  at_is = refl

  pub rank_small : rank a b < ports - 1
  rank_small = go (ltb (b - 1) (a - 1)) refl
    where
      go : (t : Bool) → ltb (b - 1) (a - 1) ≡ t → cond t (b - 1) (b - 1 - 1) < ports - 1
      go true e = omega (arith, ltb-true (b - 1) (a - 1) e, port_bounds ports a P.from, port_bounds ports b P.to)
      go false e = omega (arith, ltb-false (b - 1) (a - 1) e, port_bounds ports a P.from, port_bounds ports b P.to, P.apart)

  -- and that it does
  pub rank_target : suc (target_of (a - 1) (rank a b)) ≡ b
  rank_target = go (ltb (b - 1) (a - 1)) refl
    where
      go : (t : Bool) → ltb (b - 1) (a - 1) ≡ t → suc (target_of (a - 1) (cond t (b - 1) (b - 1 - 1))) ≡ b
      go true e = rw e (omega (arith, port_bounds ports b P.to))
      go false e =
          let l : a - 1 ≤ b - 1 - 1 = omega (arith, ltb-false (b - 1) (a - 1) e, port_bounds ports a P.from, port_bounds ports b P.to, P.apart) in
          rw (le-ltb (b - 1 - 1) (a - 1) l) (omega (arith, port_bounds ports b P.to, port_bounds ports a P.from))

  -- it is named among them exactly if the rules name it
  pub names_is : (to : ℕ) → names a to (rank a b) ≡ reaches ports a to b
  unfolding names reaches
  names_is to = rw rank_target (go (eqb to all_ports) refl)
    where
      go : (t : Bool) → eqb to all_ports ≡ t → t || eqb to b ≡ cond t (is_port ports b && not (eqb b a)) (eqb b to)
      go true e = rw (P.to, ne_eqb b a (λ h. P.apart (sym h)))
      go false e = turned (eqb to b) refl
        where
          turned : (s : Bool) → eqb to b ≡ s → s ≡ eqb b to
          turned true h = rw (eq-eqb b to (sym (eqb-true to b h)))
          turned false h = rw (ne_eqb b to (λ z. eqb-false to b h (sym z)))

-- ---- every pair from a port leads to a port
module _ (ports from k : ℕ) (low : 1 ≤ from) (high : from ≤ ports) (l : k < ports - 1) where
  abbrev pub target : ℕ
  target = suc (target_of (from - 1) k)

  target_in : (1 ≤ target) × (target ≤ ports) × (from ≡ target → ⊥) × (rank from target ≡ k)
  target_in = go (ltb k (from - 1)) refl
    where
      go : (t : Bool) → ltb k (from - 1) ≡ t → (1 ≤ suc (cond t k (suc k))) × (suc (cond t k (suc k)) ≤ ports) × (from ≡ suc (cond t k (suc k)) → ⊥) × (cond (ltb (suc (cond t k (suc k)) - 1) (from - 1)) (suc (cond t k (suc k)) - 1) (suc (cond t k (suc k)) - 1 - 1) ≡ k)
      go true e =
          let s = ltb-true k (from - 1) e in
          (omega arith, omega arith, (λ h. omega arith), rw (lt-ltb (suc k - 1) (from - 1) (omega arith)) (omega arith))
      go false e =
          let s = ltb-false k (from - 1) e in
          (omega arith, omega arith, (λ h. omega arith), rw (le-ltb (suc (suc k) - 1) (from - 1) (omega arith)) (omega arith))

  pub target_pair : IsPair ports from target
  unfolding is_port
  target_pair = record {
    from = rw (le-leb 1 from low, le-leb from ports high);
    to = rw (le-leb 1 target target_in.0, le-leb target ports target_in.1);
    apart = target_in.2;
  }

  pub target_rank : rank from target ≡ k
  target_rank = target_in.3

  pub target_at : pair_at ports (from - 1) (target - 1) ≡ first_pair ports from + k
  target_at = ap (λ n. first_pair ports from + n) target_in.3
