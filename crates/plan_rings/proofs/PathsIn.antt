-- Paths by the first k links, a link being a port of a unit, and by them alone: they lead back, and one after the other makes one. Assumes nothing.
use mathlib.Core.Path.{◌≡◌, refl, sym, ◌∙◌}
use mathlib.Core.Logic.{◌⊎◌, inl, inr, ⊎_elim}
use mathlib.Core.List.{List, [], ◌∷◌}
use Prim.Native.Nat.{ℕ, ◌+◌, ◌*◌, ◌/◌, ◌%◌, ◌<◌}
use native.Mathlib.Decide.{ℕ_discrete}
use native.Mathlib.Omega.{arith}
use lib.ListN.{get_or}
use Rattle.plan_shape.specs.Plan.{Plan, Crossing, Joins, Leads, Unused, NoUnitTwice, onward, segment_at, port_count}

-- ---- links
abbrev pub segment_of : Plan → ℕ → ℕ
segment_of plan link = get_or plan.ports link 0

abbrev pub unit_of : ℕ → ℕ
unit_of link = link / port_count

abbrev pub enter_link : Crossing → ℕ
enter_link c = port_count * c.unit + c.enter

abbrev pub leave_link : Crossing → ℕ
leave_link c = port_count * c.unit + c.leave

-- a unit crossed from one of its links to another
abbrev pub between : ℕ → ℕ → Crossing
between i j = record { unit = unit_of i; enter = i % port_count; leave = j % port_count }

-- ---- a crossing by links below k
pub record JoinsIn (plan : Plan) (k s : ℕ) (c : Crossing) (t : ℕ) : Type 0 where
  pub joins : Joins plan s c t
  pub enters : enter_link c < k
  pub leaves : leave_link c < k

unfoldable pub Within : ℕ → List Crossing → Type 0
Within k [] = Unit
Within k (c ∷ cs) = ((enter_link c < k) × (leave_link c < k)) × Within k cs

-- ---- a path by links below k
pub record PathIn (plan : Plan) (k s : ℕ) (cs : List Crossing) (t : ℕ) : Type 0 where
  pub leads : Leads plan s cs t
  pub once : NoUnitTwice cs
  pub within : Within k cs

pub path_none : {plan : Plan} {k s t : ℕ} → s ≡ t → PathIn plan k s [] t
unfolding Leads NoUnitTwice Within
path_none e = record { leads = e; once = tt; within = tt }

pub path_cons : {plan : Plan} {k s t : ℕ} {c : Crossing} {cs : List Crossing} → JoinsIn plan k s c (onward plan c) → Unused c.unit cs → PathIn plan k (onward plan c) cs t → PathIn plan k s (c ∷ cs) t
unfolding Leads NoUnitTwice Within
path_cons J u P = record { leads = (J.joins, P.leads); once = (u, P.once); within = ((J.enters, J.leaves), P.within) }

module _ {plan : Plan} {k s t : ℕ} where
  pub path_end : PathIn plan k s [] t → s ≡ t
  unfolding Leads
  path_end P = P.leads

  pub path_head : {c : Crossing} {cs : List Crossing} → PathIn plan k s (c ∷ cs) t → JoinsIn plan k s c (onward plan c)
  unfolding Leads Within
  path_head P = record { joins = P.leads.0; enters = P.within.0.0; leaves = P.within.0.1 }

  pub path_tail : {c : Crossing} {cs : List Crossing} → PathIn plan k s (c ∷ cs) t → PathIn plan k (onward plan c) cs t
  unfolding Leads NoUnitTwice Within
  path_tail P = record { leads = P.leads.1; once = P.once.1; within = P.within.1 }

  pub path_unused : {c : Crossing} {cs : List Crossing} → PathIn plan k s (c ∷ cs) t → Unused c.unit cs
  unfolding NoUnitTwice
  path_unused P = P.once.0

pub unused_one : (unit : ℕ) (c : Crossing) (cs : List Crossing) → (c.unit ≡ unit → ⊥) → Unused unit cs → Unused unit (c ∷ cs)
unfolding Unused
unused_one unit c cs ne u = (ne, u)

pub unused_none : (unit : ℕ) → Unused unit []
unfolding Unused
unused_none unit = tt

pub unused_head : (unit : ℕ) (c : Crossing) (cs : List Crossing) → Unused unit (c ∷ cs) → c.unit ≡ unit → ⊥
unfolding Unused
unused_head unit c cs u = u.0

pub unused_tail : (unit : ℕ) (c : Crossing) (cs : List Crossing) → Unused unit (c ∷ cs) → Unused unit cs
unfolding Unused
unused_tail unit c cs u = u.1

-- ---- more links
within_more : (k : ℕ) (cs : List Crossing) → Within k cs → Within (k + 1) cs
unfolding Within
within_more k [] w = tt
within_more k (c ∷ cs) w =
    let e = w.0.0 in
    let l = w.0.1 in
    ((omega arith, omega arith), within_more k cs w.1)

pub path_more : {plan : Plan} {k s t : ℕ} {cs : List Crossing} → PathIn plan k s cs t → PathIn plan (k + 1) s cs t
path_more {k = k} {cs = cs} P = record { leads = P.leads; once = P.once; within = within_more k cs P.within }

-- ---- joined
-- two segments joined by links below k
pub record Conn (plan : Plan) (k s t : ℕ) : Type 0 where
  pub crossings : List Crossing
  pub path : PathIn plan k s crossings t

pub conn_none : {plan : Plan} {k s t : ℕ} → s ≡ t → Conn plan k s t
conn_none e = record { crossings = []; path = path_none e }

pub conn_more : {plan : Plan} {k s t : ℕ} → Conn plan k s t → Conn plan (k + 1) s t
conn_more C = record { crossings = C.crossings; path = path_more C.path }

-- the part of a path after a unit
record After (plan : Plan) (k unit t : ℕ) : Type 0 where
  pub crossing : Crossing
  pub rest : List Crossing
  pub is : crossing.unit ≡ unit
  pub joins : JoinsIn plan k (segment_at plan crossing.unit crossing.enter) crossing (onward plan crossing)
  pub path : PathIn plan k (onward plan crossing) rest t
  pub free : Unused unit rest

-- a unit is not on a path, or the path has a part after it
after_unit : {plan : Plan} {k s : ℕ} (unit : ℕ) (cs : List Crossing) {t : ℕ} → PathIn plan k s cs t → Unused unit cs ⊎ After plan k unit t
after_unit unit [] P = inl (unused_none unit)
after_unit {plan = plan} {s = s} unit (c ∷ cs) P = elim (ℕ_discrete c.unit unit) [
  | yes e ↦ inr (record { crossing = c; rest = cs; is = e; joins = rw (← (path_head P).joins.from) at (path_head P); path = path_tail P; free = rw e at (path_unused P) })
  | no ne ↦ ⊎_elim (λ u. inl (unused_one unit c cs ne u)) inr (after_unit {s = onward plan c} unit cs (path_tail P))
]

-- a crossing, and then a path
pub conn_cons : {plan : Plan} {k s t : ℕ} (c : Crossing) → JoinsIn plan k s c (onward plan c) → Conn plan k (onward plan c) t → Conn plan k s t
conn_cons {plan} {k} {s} {t} c J C =
    ⊎_elim (λ u. record { crossings = c ∷ C.crossings; path = path_cons J u C.path }) meets (after_unit c.unit C.crossings C.path)
  where
    meets : After plan k c.unit t → Conn plan k s t
    meets A = elim (ℕ_discrete c.enter A.crossing.leave) [
      | yes same ↦ let e : segment_at plan c.unit c.enter ≡ onward plan A.crossing = rw (A.is, ← same) in record { crossings = A.rest; path = rw (sym J.joins.from ∙ e) A.path }
      | no ne ↦ record {
        crossings = record { unit = c.unit; enter = c.enter; leave = A.crossing.leave } ∷ A.rest;
        path = path_cons (record {
          joins = record {
            planned = J.joins.planned;
            entered = J.joins.entered;
            left = A.joins.joins.left;
            further = ne;
            from = J.joins.from;
            to = refl;
            segment = J.joins.segment;
            used = rw (← A.is) A.joins.joins.used;
          };
          enters = J.enters;
          leaves = rw (← A.is) A.joins.leaves;
        }) A.free (rw A.is at A.path);
      }
    ]

conn_then : {plan : Plan} {k s m t : ℕ} (cs : List Crossing) → PathIn plan k s cs m → Conn plan k m t → Conn plan k s t
conn_then [] P C = rw (path_end P) C
conn_then {plan = plan} {s = s} (c ∷ cs) P C = conn_cons c (path_head P) (conn_then {s = onward plan c} cs (path_tail P) C)

pub conn_trans : {plan : Plan} {k s m t : ℕ} → Conn plan k s m → Conn plan k m t → Conn plan k s t
conn_trans B C = conn_then B.crossings B.path C

-- one crossing
pub conn_one : {plan : Plan} {k s t : ℕ} (c : Crossing) → JoinsIn plan k s c t → Conn plan k s t
conn_one c J = record { crossings = c ∷ []; path = path_cons (rw (← J.joins.to) at J) (unused_none c.unit) (path_none J.joins.to) }

turned : {plan : Plan} {k s t : ℕ} (c : Crossing) → JoinsIn plan k s c t → Conn plan k t s
turned c J = conn_one (record { unit = c.unit; enter = c.leave; leave = c.enter }) (record {
  joins = record {
    planned = J.joins.planned;
    entered = J.joins.left;
    left = J.joins.entered;
    further = λ e. J.joins.further (sym e);
    from = J.joins.to;
    to = J.joins.from;
    segment = J.joins.used;
    used = J.joins.segment;
  };
  enters = J.leaves;
  leaves = J.enters;
})

conn_back : {plan : Plan} {k s t : ℕ} (cs : List Crossing) → PathIn plan k s cs t → Conn plan k t s
conn_back [] P = conn_none (sym (path_end P))
conn_back {plan = plan} {s = s} (c ∷ cs) P = conn_trans (conn_back {s = onward plan c} cs (path_tail P)) (turned c (path_head P))

pub conn_sym : {plan : Plan} {k s t : ℕ} → Conn plan k s t → Conn plan k t s
conn_sym C = conn_back C.crossings C.path

-- a path up to a unit: none of it passes the unit
pub record UpTo (plan : Plan) (k unit s : ℕ) (through : List Crossing) : Type 0 where
  pub crossings : List Crossing
  pub link : ℕ
  pub path : PathIn plan k s crossings (segment_of plan link)
  pub free : Unused unit crossings
  pub below : link < k
  pub on : unit_of link ≡ unit
  pub used : segment_of plan link ≡ 0 → ⊥
  pub fewer : (other : ℕ) → Unused other through → Unused other crossings

pub up_to : {plan : Plan} {k s : ℕ} (unit : ℕ) (cs : List Crossing) {t : ℕ} → PathIn plan k s cs t → Unused unit cs ⊎ UpTo plan k unit s cs
up_to unit [] P = inl (unused_none unit)
up_to {plan} {k} {s} unit (c ∷ cs) P = go (up_to {s = onward plan c} unit cs (path_tail P)) (ℕ_discrete c.unit unit)
  where
    go : Unused unit cs ⊎ UpTo plan k unit (onward plan c) cs → Dec (c.unit ≡ unit) → Unused unit (c ∷ cs) ⊎ UpTo plan k unit s (c ∷ cs)
    go later (yes e) =
        let head = path_head P in
        let in-unit = head.joins.entered in
        inr (record {
          crossings = [];
          link = enter_link c;
          path = path_none (sym head.joins.from);
          free = unused_none unit;
          below = head.enters;
          on = omega arith;
          used = rw head.joins.from head.joins.segment;
          fewer = λ other h. unused_none other;
        })
    go (inl u) (no ne) = inl (unused_one unit c cs ne u)
    go (inr U) (no ne) = inr (record {
      crossings = c ∷ U.crossings;
      link = U.link;
      path = path_cons (path_head P) (U.fewer c.unit (path_unused P)) U.path;
      free = unused_one unit c U.crossings ne U.free;
      below = U.below;
      on = U.on;
      used = U.used;
      fewer = λ other h. unused_one other c U.crossings (unused_head other c cs h) (U.fewer other (unused_tail other c cs h));
    })
