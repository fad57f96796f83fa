-- What a walk from unmarked marks reaches is what hears: no unit twice is what the marks say, and a path that comes to a segment twice has a shorter one. Assumes nothing.
use mathlib.Core.Path.{◌≡◌, refl, sym, ◌∙◌, subst}
use mathlib.Core.Logic.{◌⊎◌, inl, inr, ⊎_elim, ◌↔◌}
use mathlib.Core.Bool.{Bool, true, false, true≢false}
use mathlib.Core.List.{List, [], ◌∷◌}
use Prim.Native.Nat.{ℕ, zero, suc, ◌+◌, ◌*◌, ◌≤◌, ◌<◌}
use native.Mathlib.Decide.{ℕ_discrete}
use native.Mathlib.Omega.{arith}
use lib.ListN.{length, get_or, replicate, length-set, length-replicate}
use lib.Seq.{get_or-set_same, get_or-set_other}
use Rattle.plan_shape.specs.Plan.{Plan, Crossing, Joins, Leads, Unused, NoUnitTwice, EachPermits, Hears, onward, most_segments, most_units, port_count}
use Rattle.plan_walk.specs.Walk.{Unvisited, unit_place, marked, marks_length, Way, Reached}
use Rattle.plan_walk.proofs.Marks.{stays}

-- ---- no segment twice
-- a segment is none of those that crossings lead to
Away : Plan → ℕ → List Crossing → Type 0
Away plan s [] = Unit
Away plan s (c ∷ cs) = (onward plan c ≡ s → ⊥) × Away plan s cs

NoSegmentTwice : Plan → ℕ → List Crossing → Type 0
NoSegmentTwice plan s [] = Unit
NoSegmentTwice plan s (c ∷ cs) = Away plan s (c ∷ cs) × NoSegmentTwice plan (onward plan c) cs

-- a path that permits
record Open (plan : Plan) (pgn s : ℕ) (cs : List Crossing) (t : ℕ) : Type 0 where
  pub leads : Leads plan s cs t
  pub once : NoUnitTwice cs
  pub permits : EachPermits plan pgn cs

-- one that comes to no segment twice, through no other units than a given one
record Shorter (plan : Plan) (pgn s : ℕ) (through : List Crossing) (t : ℕ) : Type 0 where
  pub crossings : List Crossing
  pub way : Open plan pgn s crossings t
  pub simple : NoSegmentTwice plan s crossings
  pub fewer : (unit : ℕ) → Unused unit through → Unused unit crossings

module _ (plan : Plan) (pgn : ℕ) where
  tail : (s : ℕ) (c : Crossing) (cs : List Crossing) (t : ℕ) → Open plan pgn s (c ∷ cs) t → Open plan pgn (onward plan c) cs t
  unfolding Leads NoUnitTwice EachPermits
  tail s c cs t O = record { leads = O.leads.1; once = O.once.1; permits = O.permits.1 }

  -- a path either never comes to s, or has a part from s on
  part_from : (s m : ℕ) (cs : List Crossing) (t : ℕ) → Open plan pgn m cs t → NoSegmentTwice plan m cs → ((m ≡ s → ⊥) × Away plan s cs) ⊎ Shorter plan pgn s cs t
  unfolding Away NoSegmentTwice Unused
  part_from s m [] t O N = elim (ℕ_discrete m s) [
    | yes e ↦ inr (record { crossings = []; way = rw e at O; simple = tt; fewer = λ unit h. h })
    | no ne ↦ inl (ne, tt)
  ]
  part_from s m (c ∷ cs) t O N = go (part_from s (onward plan c) cs t (tail m c cs t O) N.1) (ℕ_discrete m s)
    where
      go : ((onward plan c ≡ s → ⊥) × Away plan s cs) ⊎ Shorter plan pgn s cs t → Dec (m ≡ s) → ((m ≡ s → ⊥) × Away plan s (c ∷ cs)) ⊎ Shorter plan pgn s (c ∷ cs) t
      go later (yes e) = inr (record { crossings = c ∷ cs; way = subst (λ (x : ℕ). Open plan pgn x (c ∷ cs) t) e O; simple = subst (λ (x : ℕ). NoSegmentTwice plan x (c ∷ cs)) e N; fewer = λ unit h. h })
      go (inl away) (no ne) = inl (ne, away)
      go (inr S) (no ne) = inr (record { crossings = S.crossings; way = S.way; simple = S.simple; fewer = λ unit h. S.fewer unit h.1 })

  shorten : (s : ℕ) (cs : List Crossing) (t : ℕ) → Open plan pgn s cs t → Shorter plan pgn s cs t
  unfolding Away NoSegmentTwice Unused Leads NoUnitTwice EachPermits
  shorten s [] t O = record { crossings = []; way = O; simple = tt; fewer = λ unit h. h }
  shorten s (c ∷ cs) t O = go (shorten (onward plan c) cs t (tail s c cs t O))
    where
      go : Shorter plan pgn (onward plan c) cs t → Shorter plan pgn s (c ∷ cs) t
      go S = ⊎_elim
          (λ away. record {
            crossings = c ∷ S.crossings;
            way = record {
              leads = (O.leads.0, S.way.leads);
              once = (S.fewer c.unit O.once.0, S.way.once);
              permits = (O.permits.0, S.way.permits);
            };
            simple = (away, S.simple);
            fewer = λ unit h. (h.0, S.fewer unit h.1);
          })
          (λ R. record { crossings = R.crossings; way = R.way; simple = R.simple; fewer = λ unit h. R.fewer unit (S.fewer unit h.1) })
          (part_from s (onward plan c) S.crossings t S.way S.simple)

-- ---- marks on the way
pub unmarked_at : (n i : ℕ) → Unvisited (replicate n false) i
unmarked_at zero i = refl
unmarked_at (suc n) zero = refl
unmarked_at (suc n) (suc i) = unmarked_at n i

-- what crossings enter is unvisited
Free : Plan → List Bool → List Crossing → Type 0
Free plan marks [] = Unit
Free plan marks (c ∷ cs) = Unvisited marks (onward plan c) × (Unvisited marks (unit_place c.unit) × Free plan marks cs)

module _ (plan : Plan) (pgn : ℕ) (few : plan.units ≤ most_units) (in_range : (i : ℕ) → i < port_count * plan.units → get_or plan.ports i 0 ≤ most_segments) where
  onward_small : {s t : ℕ} {c : Crossing} → Joins plan s c t → onward plan c ≤ most_segments
  onward_small {c = c} joins =
      let in-plan = joins.planned in
      let in-unit = joins.left in
      in_range (port_count * c.unit + c.leave) (omega arith)

  free_on : (marks : List Bool) (s unit m : ℕ) (cs : List Crossing) (t : ℕ) → s ≤ most_segments → Leads plan m cs t → Away plan s cs → Unused unit cs → Free plan marks cs → Free plan (marked (marked marks s) (unit_place unit)) cs
  unfolding Free Leads Away Unused
  free_on marks s unit m [] t h L A U F = tt
  free_on marks s unit m (c ∷ cs) t h L A U F =
      let small = onward_small L.0 in (
        stays (marked marks s) (unit_place unit) (onward plan c) (λ e. omega arith) (stays marks s (onward plan c) A.0 F.0),
        (
          stays (marked marks s) (unit_place unit) (unit_place c.unit) (λ e. U.0 (omega arith)) (stays marks s (unit_place c.unit) (λ e. omega arith) F.1.0),
          free_on marks s unit (onward plan c) cs t h L.1 A.1 U.1 F.1.1,
        ),
      )

  to_way : (marks : List Bool) (s : ℕ) (cs : List Crossing) (t : ℕ) → s ≤ most_segments → Unvisited marks s → Open plan pgn s cs t → NoSegmentTwice plan s cs → Free plan marks cs → Way plan pgn marks s cs t
  unfolding Way Free Leads NoUnitTwice EachPermits NoSegmentTwice Away
  to_way marks s [] t h u O N F = (u, O.leads)
  to_way marks s (c ∷ cs) t h u O N F =
      let small = onward_small O.leads.0 in
      let next = marked (marked marks s) (unit_place c.unit) in (
        u,
        (
          O.leads.0,
          (
            stays marks s (unit_place c.unit) (λ e. omega arith) F.1.0,
            (
              O.permits.0,
              to_way next (onward plan c) cs t small
                  (stays (marked marks s) (unit_place c.unit) (onward plan c) (λ e. omega arith) (stays marks s (onward plan c) N.0.0 F.0))
                  (tail plan pgn s c cs t O) N.1 (free_on marks s c.unit (onward plan c) cs t h O.leads.1 N.0.1 O.once.0 F.1.1),
            ),
          ),
        ),
      )

  -- ---- and back
  visited_still : (marks : List Bool) (i j : ℕ) → i < length marks → get_or marks i false ≡ true → get_or (marked marks j) i false ≡ true
  visited_still marks i j h e = elim (ℕ_discrete i j) [
    | yes q ↦ rw (← q) (get_or-set_same marks i true false h)
    | no ne ↦ get_or-set_other marks j i true false ne ∙ e
  ]

  way_unused : (unit : ℕ) (marks : List Bool) (s : ℕ) (cs : List Crossing) (t : ℕ) → unit_place unit < length marks → get_or marks (unit_place unit) false ≡ true → Way plan pgn marks s cs t → Unused unit cs
  unfolding Way Unused
  way_unused unit marks s [] t h v w = tt
  way_unused unit marks s (c ∷ cs) t h v w =
      let here = visited_still marks (unit_place unit) s h v in
      let long = length-set marks s true in (
        (λ e. clash (rw e at w.1.1.0) here),
        way_unused unit (marked (marked marks s) (unit_place c.unit)) (onward plan c) cs t (simp length-set h)
            (visited_still (marked marks s) (unit_place unit) (unit_place c.unit) (omega arith) here) w.1.1.1.1,
      )
    where
      clash : get_or (marked marks s) (unit_place unit) false ≡ false → get_or (marked marks s) (unit_place unit) false ≡ true → ⊥
      clash p q = true≢false (sym q ∙ p)

  way_open : (marks : List Bool) (s : ℕ) (cs : List Crossing) (t : ℕ) → length marks ≡ marks_length → Way plan pgn marks s cs t → Open plan pgn s cs t
  unfolding Way Leads NoUnitTwice EachPermits
  way_open marks s [] t l w = record { leads = w.1; once = tt; permits = tt }
  way_open marks s (c ∷ cs) t l w =
      let next = marked (marked marks s) (unit_place c.unit) in
      let in-plan = w.1.0.planned in
      let long : length (marked marks s) ≡ marks_length = length-set marks s true ∙ l in
      let longer : length next ≡ marks_length = length-set (marked marks s) (unit_place c.unit) true ∙ long in
      let O = way_open next (onward plan c) cs t longer w.1.1.1.1 in
      record {
        leads = (w.1.0, O.leads);
        once = (way_unused c.unit next (onward plan c) cs t (omega arith) (get_or-set_same (marked marks s) (unit_place c.unit) true false (omega arith)) w.1.1.1.1, O.once);
        permits = (w.1.1.1.0, O.permits);
      }

  -- ---- from unmarked marks
  all_free : (n : ℕ) (cs : List Crossing) → Free plan (replicate n false) cs
  unfolding Free
  all_free n [] = tt
  all_free n (c ∷ cs) = (unmarked_at n (onward plan c), (unmarked_at n (unit_place c.unit), all_free n cs))

  pub hears_is : {n : ℕ} (first : ℕ) → n ≡ marks_length → first ≤ most_segments → (t : ℕ) → Reached plan pgn (replicate n false) first t ↔ Hears plan first pgn t
  unfolding Way
  hears_is {n} first l h t = (
    (λ w. let O = way_open (replicate n false) first w.0 t (length-replicate n false ∙ l) w.1 in inr (w.0, (record { leads = O.leads; once = O.once }, O.permits))),
    ⊎_elim
        (λ e. ([], (unmarked_at n first, sym e)))
        (λ p. let S = shorten plan pgn first p.0 t (record { leads = p.1.0.leads; once = p.1.0.once; permits = p.1.1 }) in
        (S.crossings, to_way (replicate n false) first S.crossings t h (unmarked_at n first) S.way S.simple (all_free n S.crossings))),
  )
