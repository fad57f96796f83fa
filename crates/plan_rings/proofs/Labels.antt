-- The labels, place by place: each its own, and one turned into another. Assumes nothing.
use mathlib.Core.Path.{◌≡◌, refl, sym, ◌∙◌}
use mathlib.Core.Bool.{true, false, cond, true≢false}
use mathlib.Core.Logic.{inl, inr}
use mathlib.Core.List.{List}
use Prim.Native.Nat.{ℕ, ◌+◌, ◌/◌, ◌≤◌, ◌<◌}
use native.Mathlib.Decide.{ℕ_discrete}
use native.Mathlib.Omega.{arith}
use borrow.Author.Tests.{eq-eqb, ne_eqb}
use lib.ListN.{length, get_or, set, length-set}
use lib.Seq.{get_or-set_same, get_or-set_other}
use lib.Dec.{eqb}
use Rattle.plan_shape.specs.Plan.{most_segments, port_count}
use Rattle.plan_rings.specs.Rings.{nodes, unit_node, label, Fresh, Relabeled, Linking}

-- ---- relabeled up to n
pub record RelabeledTo (from to : ℕ) (before now : List ℕ) (n : ℕ) : Type 0 where
  pub long : length now ≡ length before
  pub done : (i : ℕ) → i < n → label now i ≡ cond (eqb (label before i) from) to (label before i)
  pub rest : (i : ℕ) → n ≤ i → label now i ≡ label before i

module _ {from to : ℕ} {before : List ℕ} where
  pub relabel_start : RelabeledTo from to before before 0
  relabel_start = record { long = refl; done = λ i l. absurd (none i l); rest = λ i l. refl }
    where
      none : (i : ℕ) → i < 0 → ⊥
      none i l = omega arith

  module _ {now : List ℕ} {n : ℕ} (R : RelabeledTo from to before now n) where
    pub relabel_one : {v : ℕ} → n < length before → v ≡ cond (eqb (label now n) from) to (label now n) → RelabeledTo from to before (set now n v) (n + 1)
    relabel_one {v} h e = record {
      long = length-set now n v ∙ R.long;
      done = λ i l. at i l (ℕ_discrete i n);
      rest = λ i l. get_or-set_other now n i v 0 (λ z. later i l z) ∙ R.rest i (omega arith);
    }
      where
        later : (i : ℕ) → n + 1 ≤ i → i ≡ n → ⊥
        later i l z = omega arith

        at : (i : ℕ) → i < n + 1 → Dec (i ≡ n) → label (set now n v) i ≡ cond (eqb (label before i) from) to (label before i)
        at i l (yes z) = rw (z, get_or-set_same now n v 0 (omega (arith, R.long)), ← (R.rest n (omega arith))) e
        at i l (no ne) = get_or-set_other now n i v 0 ne ∙ R.done i (omega arith)

    pub relabel_done : length before ≤ n → Relabeled from to before now
    relabel_done h = record { long = R.long; at = λ i l. R.done i (omega arith) }

-- ---- a node to which nothing is joined is relabeled alone
pub relabel_alone : {before : List ℕ} {from to : ℕ} (node : ℕ) → length before ≡ nodes → node < nodes → most_segments < node → Fresh before → from ≡ label before node → from ≡ node → Relabeled from to before (set before node to)
relabel_alone {before} {from} {to} node long h m fresh e own = record { long = length-set before node to; at = λ i l. at i l (ℕ_discrete i node) }
  where
    apart : (i : ℕ) → i < length before → (i ≡ node → ⊥) → label before i ≡ from → ⊥
    apart i l ne f = ne (sym (fresh i (omega arith) (omega arith)) ∙ f ∙ own)

    at : (i : ℕ) → i < length before → Dec (i ≡ node) → label (set before node to) i ≡ cond (eqb (label before i) from) to (label before i)
    at i l (yes z) = rw (z, get_or-set_same before node to 0 (omega arith), eq-eqb (label before node) from (sym e))
    at i l (no ne) = get_or-set_other before node i to 0 ne ∙ rw (ne_eqb (label before i) from (apart i l ne))

-- ---- a link
module _ {ports : List ℕ} {link : ℕ} {before : List ℕ} where
  pub link_none : get_or ports link 0 ≡ 0 → Linking ports link before before false
  link_none e = record { again = λ z. absurd (true≢false (sym z)); joined = λ _. inl (e, refl) }

  pub link_again : {after : List ℕ} → (get_or ports link 0 ≡ 0 → ⊥) → label before (get_or ports link 0) ≡ label before (unit_node (link / port_count)) → Linking ports link before after true
  link_again ne e = record { again = λ _. (ne, e); joined = λ z. absurd (true≢false z) }

  pub link_joined : {after : List ℕ} → (get_or ports link 0 ≡ 0 → ⊥) → (label before (get_or ports link 0) ≡ label before (unit_node (link / port_count)) → ⊥)
      → Relabeled (label before (unit_node (link / port_count))) (label before (get_or ports link 0)) before after → Linking ports link before after false
  link_joined ne apart R = record { again = λ z. absurd (true≢false (sym z)); joined = λ _. inr (ne, (apart, R)) }
