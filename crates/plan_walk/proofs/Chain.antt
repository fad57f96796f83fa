-- The chain of the links, from the last to the first: one link more. Assumes nothing.
use mathlib.Core.Path.{◌≡◌, sym, ◌∙◌}
use mathlib.Core.List.{List}
use Prim.Native.Nat.{ℕ, ◌+◌, ◌≤◌, ◌<◌}
use native.Mathlib.Decide.{ℕ_discrete}
use native.Mathlib.Omega.{arith}
use lib.ListN.{length, get_or, set, replicate, length-set, length-replicate, get_or-replicate}
use lib.Seq.{get_or-set_same, get_or-set_other}
use Rattle.plan_shape.specs.Plan.{most_segments, ports_length}
use Rattle.plan_walk.specs.Walk.{NextOn, Chained, link_place, chain_length}

module _ {ports : List ℕ} {end : ℕ} where
  -- this link is on the segment
  next_here : {s k : ℕ} → k < end → get_or ports k 0 ≡ s → NextOn ports end s k k
  next_here {s} {k} h e = record { onward = omega arith; within = omega arith; others = λ i a b. absurd (none i a b); on = λ _. e }
    where
      none : (i : ℕ) → k ≤ i → i < k → ⊥
      none i a b = omega arith

  -- it is not
  next_past : {s k link : ℕ} → (get_or ports k 0 ≡ s → ⊥) → NextOn ports end s (k + 1) link → NextOn ports end s k link
  next_past {s} {k} {link} ne N = record { onward = omega (arith, N.onward); within = N.within; others = other; on = N.on }
    where
      other : (i : ℕ) → k ≤ i → i < link → get_or ports i 0 ≡ s → ⊥
      other i a b e = elim (ℕ_discrete i k) [
        | yes z ↦ ne (rw z at e)
        | no n ↦ N.others i (omega arith) b e
      ]

  -- no link yet
  pub chain_start : (n : ℕ) → n ≡ chain_length → Chained ports end end (replicate n end)
  chain_start n long = record { long = length-replicate n end ∙ long; first = first; next = λ link a b. absurd (none link a b) }
    where
      none : (i : ℕ) → end ≤ i → i < end → ⊥
      none i a b = omega arith

      first : (s : ℕ) → (s ≡ 0 → ⊥) → s ≤ most_segments → NextOn ports end s end (get_or (replicate n end) s 0)
      first s ne m = rw (get_or-replicate n s end 0 (omega arith)) (record { onward = omega arith; within = omega arith; others = λ i a b. absurd (none i a b); on = λ h. absurd (none end (omega arith) h) })

  module _ {n k : ℕ} {chain : List ℕ} (down : n ≡ k + 1) (C : Chained ports end n chain) where
    -- an unused port
    pub chain_past : get_or ports k 0 ≡ 0 → Chained ports end k chain
    chain_past z = record {
      long = C.long;
      first = λ s ne m. next_past (λ e. ne (sym e ∙ z)) (rw down at (C.first s ne m));
      next = λ link a b used. C.next link (later link a used) b used;
    }
      where
        later : (link : ℕ) → k ≤ link → (get_or ports link 0 ≡ 0 → ⊥) → n ≤ link
        later link a used = elim (ℕ_discrete link k) [
          | yes e ↦ absurd (used (rw e z))
          | no ne ↦ omega arith
        ]

    -- a link of a segment
    pub chain_more : {s : ℕ} → k < end → end ≤ ports_length → get_or ports k 0 ≡ s → (s ≡ 0 → ⊥) → s ≤ most_segments → Chained ports end k (set (set chain (link_place k) (get_or chain s 0)) s k)
    chain_more {s} h room on used small = record {
      long = length-set between s k ∙ long;
      first = λ t ne m. first t ne m (ℕ_discrete t s);
      next = λ link a b u. next link a b u (ℕ_discrete link k);
    }
      where
        between : List ℕ
        between = set chain (link_place k) (get_or chain s 0)

        long : length between ≡ chain_length
        long = length-set chain (link_place k) (get_or chain s 0) ∙ C.long

        first : (t : ℕ) → (t ≡ 0 → ⊥) → t ≤ most_segments → Dec (t ≡ s) → NextOn ports end t k (get_or (set between s k) t 0)
        first t ne m (yes e) = rw (e, get_or-set_same between s k 0 (omega (arith, long))) (next_here h on)
        first t ne m (no other) =
            rw (get_or-set_other between s t k 0 other, get_or-set_other chain (link_place k) t (get_or chain s 0) 0 (λ e. omega arith))
            (next_past (λ e. other (sym e ∙ on)) (rw down at (C.first t ne m)))

        next : (link : ℕ) → k ≤ link → link < end → (get_or ports link 0 ≡ 0 → ⊥) → Dec (link ≡ k) → NextOn ports end (get_or ports link 0) (link + 1) (get_or (set between s k) (link_place link) 0)
        next link a b u (yes e) =
            rw (e, get_or-set_other between s (link_place k) k 0 (λ z. omega arith), get_or-set_same chain (link_place k) (get_or chain s 0) 0 (omega (arith, C.long)), on, ← down) (C.first s used small)
        next link a b u (no other) =
            rw (get_or-set_other between s (link_place link) k 0 (λ z. omega arith), get_or-set_other chain (link_place k) (link_place link) (get_or chain s 0) 0 (λ z. other (omega arith)))
            (C.next link (omega arith) b u)
