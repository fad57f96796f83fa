-- Number 11 for a tool on a port other than 1: it may name just what the rules call its own, and the unit as a whole is port 1's. A tool that names all pairs
-- from another port names one that is not its own: of three ports one is neither From nor the tool's. In a unit of two ports they are the one pair that leads
-- to it. Assumes nothing.
use mathlib.Core.Path.{◌≡◌, refl, sym, ◌∙◌}
use mathlib.Core.Logic.{◌⊎◌, inl, inr, ⊎_elim}
use mathlib.Core.Bool.{Bool, true, false, cond, not, ◌&&◌, ◌||◌, or-true, true≢false}
use Prim.Native.Nat.{ℕ, ◌≤◌}
use native.Mathlib.Omega.{arith}
use borrow.Author.Tests.{eq-eqb, ne_eqb, eqb-true, eqb-false, le-leb, not-true}
use lib.Dec.{eqb}
use Rattle.checks.specs.Ports.{is_port}
use Rattle.checks.proofs.Ports.{port_bounds}
use Rattle.checks.proofs.Tests.{both}
use Rattle.network_message.specs.Decoding.{all_ports, is_general, may_name}
use Rattle.network_message.specs.Commands.{Named, pairs, whole, named_by, reaches, Own}

module _ (ports port function from to : ℕ) (tool : 2 ≤ port) (there : port ≤ ports) (few : ports ≤ 8) where
  -- ---- what it may name is its own
  abbrev Right : Type 0
  Right = (to ≡ port) ⊎ ((function ≡ 64 → ⊥) × ((from ≡ port) ⊎ ((to ≡ all_ports) × (ports ≡ 2))))

  -- it is no general function, and has the right to what it names
  tested : may_name ports port function from to ≡ true → (not (is_general function) ≡ true) × ((eqb to port || (not (eqb function 64) && (eqb from port || (eqb to all_ports && eqb ports 2)))) ≡ true)
  unfolding may_name
  tested may = both (not (is_general function)) _ (rw (ne_eqb port 1 (λ e. omega arith)) at may)

  right : may_name ports port function from to ≡ true → Right
  right may =
      go (eqb to port) (eqb function 64) (eqb from port) (eqb to all_ports) (eqb ports 2) refl refl refl refl refl (tested may).1
    where
      go : (t l f a n : Bool) → eqb to port ≡ t → eqb function 64 ≡ l → eqb from port ≡ f → eqb to all_ports ≡ a → eqb ports 2 ≡ n → (t || (not l && (f || (a && n)))) ≡ true → Right
      go true l f a n et el ef ea en e = inl (eqb-true to port et)
      go false false true a n et el ef ea en e = inr (eqb-false function 64 el, inl (eqb-true from port ef))
      go false false false true true et el ef ea en e = inr (eqb-false function 64 el, inr (eqb-true to all_ports ea, eqb-true ports 2 en))
      go false false false true false et el ef ea en e = let z : ◌≡◌ {A = ℕ} 0 1 = cc in absurd (omega arith)
      go false false false false n et el ef ea en e = let z : ◌≡◌ {A = ℕ} 0 1 = cc in absurd (omega arith)
      go false true f a n et el ef ea en e = let z : ◌≡◌ {A = ℕ} 0 1 = cc in absurd (omega arith)

  pub own_pairs : 1 ≤ from → from ≤ ports → may_name ports port function from to ≡ true → Own ports port (pairs from to)
  unfolding reaches
  own_pairs low high may q e = ⊎_elim (λ t. inr (at_port t)) (λ w. ⊎_elim inl (λ s. two s.0 s.1) w.1) (right may)
    where
      at_port : to ≡ port → q ≡ port
      at_port t = eqb-true q to (rw (ne_eqb to all_ports (λ a. omega arith)) at e) ∙ t

      two : to ≡ all_ports → ports ≡ 2 → (from ≡ port) ⊎ (q ≡ port)
      two a n = go (eqb from port) refl
        where
          go : (b : Bool) → eqb from port ≡ b → (from ≡ port) ⊎ (q ≡ port)
          go true t = inl (eqb-true from port t)
          go false f =
              let p = both (is_port ports q) (not (eqb q from)) (rw (eq-eqb to all_ports a) at e) in
              inr (omega (arith, port_bounds ports q p.0, eqb-false from port f, eqb-false q from (not-true (eqb q from) p.1)))

  pub own_port : may_name ports port function from to ≡ true → function ≡ 64 → to ≡ port
  own_port may e = ⊎_elim (λ t. t) (λ w. absurd (w.0 e)) (right may)

  -- the unit as a whole is none of its own
  pub own_whole : may_name ports port function from to ≡ true → is_general function ≡ true → Own ports port whole
  own_whole may g = absurd (true≢false (sym g ∙ not-true (is_general function) (tested may).0))

  -- ---- and what is its own it may name
  may_whole : Own ports port whole → may_name ports port function from to ≡ true
  unfolding may_name
  may_whole o = rw (eq-eqb port 1 o)

  may_to : is_general function ≡ false → to ≡ port → may_name ports port function from to ≡ true
  unfolding may_name
  may_to g t = rw (g, eq-eqb to port t) (or-true (eqb port 1))

  may_from : is_general function ≡ false → (function ≡ 64 → ⊥) → from ≡ port → may_name ports port function from to ≡ true
  unfolding may_name
  may_from g h f = rw (g, ne_eqb function 64 h, eq-eqb from port f, or-true (eqb to port)) (or-true (eqb port 1))

  may_two : is_general function ≡ false → (function ≡ 64 → ⊥) → to ≡ all_ports → ports ≡ 2 → may_name ports port function from to ≡ true
  unfolding may_name
  may_two g h a n = rw (g, ne_eqb function 64 h, eq-eqb to all_ports a, eq-eqb ports 2 n, or-true (eqb from port), or-true (eqb to port)) (or-true (eqb port 1))

  -- a port that is neither From nor the tool's
  third : 3 ≤ ports → (from ≡ port → ⊥) → (q : ℕ) × (is_port ports q ≡ true) × (q ≡ from → ⊥) × (q ≡ port → ⊥)
  unfolding is_port
  third many h = go (eqb from 1) (eqb port 2) refl refl
    where
      port_is : (q : ℕ) → 1 ≤ q → q ≤ 3 → is_port ports q ≡ true
      port_is q l u = rw (le-leb 1 q l, le-leb q ports (omega arith))

      go : (a b : Bool) → eqb from 1 ≡ a → eqb port 2 ≡ b → (q : ℕ) × (is_port ports q ≡ true) × (q ≡ from → ⊥) × (q ≡ port → ⊥)
      go false b ea eb = (1, port_is 1 (omega arith) (omega arith), (λ e. eqb-false from 1 ea (sym e)), (λ e. omega arith))
      go true false ea eb = (2, port_is 2 (omega arith) (omega arith), (λ e. omega (arith, eqb-true from 1 ea)), (λ e. eqb-false port 2 eb (sym e)))
      go true true ea eb = (3, port_is 3 (omega arith) (omega arith), (λ e. omega (arith, eqb-true from 1 ea)), (λ e. omega (arith, eqb-true port 2 eb)))

  may_pairs : is_general function ≡ false → (function ≡ 64 → ⊥) → Own ports port (pairs from to) → may_name ports port function from to ≡ true
  unfolding reaches
  may_pairs g h own = go (eqb to all_ports) (eqb from port) (eqb ports 2) refl refl refl
    where
      go : (a b n : Bool) → eqb to all_ports ≡ a → eqb from port ≡ b → eqb ports 2 ≡ n → may_name ports port function from to ≡ true
      go a true n ea eb en = may_from g h (eqb-true from port eb)
      go false false n ea eb en = ⊎_elim (may_from g h) (may_to g) (own to (rw (ea, eq-eqb to to refl)))
      go true false true ea eb en = may_two g h (eqb-true to all_ports ea) (eqb-true ports 2 en)
      go true false false ea eb en =
          let t = third (omega (arith, eqb-false ports 2 en)) (eqb-false from port eb) in
          absurd (⊎_elim (eqb-false from port eb) t.3 (own t.0 (rw (ea, t.1, ne_eqb t.0 from t.2))))

  pub right_exact : 1 ≤ from → from ≤ ports
      → (may_name ports port function from to ≡ true → Own ports port (named_by function from to)) × (Own ports port (named_by function from to) → may_name ports port function from to ≡ true)
  unfolding named_by
  right_exact low high = go (is_general function) (eqb function 64) refl refl
    where
      go : (g b : Bool) → is_general function ≡ g → eqb function 64 ≡ b
          → (may_name ports port function from to ≡ true → Own ports port (cond g whole (cond b (Named.port to) (pairs from to)))) × (Own ports port (cond g whole (cond b (Named.port to) (pairs from to))) → may_name ports port function from to ≡ true)
      go true b eg e = ((λ may. own_whole may eg), may_whole)
      go false true eg e = ((λ may. own_port may (eqb-true function 64 e)), may_to eg)
      go false false eg e = (own_pairs low high, may_pairs eg (eqb-false function 64 e))
