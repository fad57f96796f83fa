-- What is heard at the end of a walk from unmarked marks, as bits. Assumes nothing.
use mathlib.Core.Path.{◌≡◌, refl, sym, ◌∙◌}
use mathlib.Core.Bool.{Bool, true, false}
use mathlib.Core.Logic.{inr, ⊎_elim, ◌↔◌}
use mathlib.Core.List.{List}
use Prim.Native.Nat.{ℕ, ◌+◌, ◌-◌, ◌*◌, ◌/◌, ◌≤◌}
use native.Mathlib.Omega.{arith}
use lib.ListN.{replicate}
use Rattle.unit.specs.Ports.{bit_at}
use Rattle.plan_shape.specs.Plan.{Plan, Hearing, Hears, most_segments, port_count}
use Rattle.plan_walk.specs.Walk.{Bounded, Chained, Walkable, Walked, Reached, marks_length}
use Rattle.plan_walk.proofs.Bits.{none_heard, half_bit}
use Rattle.plan_walk.proofs.Paths.{hears_is}

pub walk_fresh : {plan : Plan} {chain : List ℕ} → Bounded plan → Chained plan.ports (port_count * plan.units) 0 chain → Walkable plan chain (replicate marks_length false) 0
walk_fresh P C = record { bounded = P; chained = C; long_marks = refl; small = omega arith }

pub answer_is : {plan : Plan} {pgn first : ℕ} (n : ℕ) {marks : List Bool} {heard : ℕ} → n ≡ marks_length → Bounded plan → first ≤ most_segments
    → Walked (Reached plan pgn (replicate n false) first) (replicate n false) 0 marks heard → Hearing plan first pgn (heard / 2)
answer_is {plan} {pgn} {first} n {heard = heard} l P small W = record { told = at; small = omega (arith, W.small) }
  where
    at : (segment : ℕ) → 1 ≤ segment → segment ≤ most_segments → (bit_at (heard / 2) (segment - 1) ≡ true) ↔ Hears plan first pgn segment
    at segment h m =
        let place : segment - 1 + 1 ≡ segment = omega arith in
        let bit : bit_at (heard / 2) (segment - 1) ≡ bit_at heard segment = rw place at (half_bit heard (segment - 1)) in
        let hears = hears_is plan pgn P.few P.in_range first l small segment in (
          (λ b. ⊎_elim (λ z. absurd (none_heard segment z)) (λ w. hears.0 w) ((W.heard.at segment).0 (sym bit ∙ b))),
          (λ s. bit ∙ (W.heard.at segment).1 (inr (hears.1 s))),
        )
