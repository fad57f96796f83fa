-- While no link joins what is joined already, one path at most leads from a segment to another; the first link that does makes two. Assumes nothing.
use mathlib.Core.Path.{◌≡◌, refl, sym, ap, ◌∙◌}
use mathlib.Core.Bool.{Bool, true, false}
use mathlib.Core.Logic.{◌⊎◌, inl, inr, ⊎_elim}
use mathlib.Core.List.{List, [], ◌∷◌, ◌++◌}
use Prim.Native.Nat.{ℕ, ◌+◌, ◌*◌, ◌≤◌, ◌<◌}
use native.Mathlib.Decide.{ℕ_discrete}
use native.Mathlib.Omega.{arith}
use lib.ListN.{length}
use Rattle.plan_shape.specs.Plan.{Plan, Crossing, Joins, Leads, NoUnitTwice, Unused, Path, TwoPaths, TwoPorts, Ringed, onward, segment_at, port_count}
use Rattle.plan_rings.specs.Rings.{unit_node, label, Numbered, Linking}
use Rattle.plan_rings.proofs.PathsIn.{segment_of, unit_of, enter_link, leave_link, between, Within, JoinsIn, PathIn, Conn, path_none, path_cons, path_end, path_head, path_tail, path_unused, unused_one, unused_none, unused_head, unused_tail, up_to}
use Rattle.plan_rings.proofs.Joined.{Linked, On, itself, linked, crossed, Joint, Labeled, labeled_start, labeled_past, labeled_more, label_path}

-- ---- lists of crossings
unused_front : (unit : ℕ) (xs ys : List Crossing) → Unused unit (xs ++ ys) → Unused unit xs
unused_front unit [] ys u = unused_none unit
unused_front unit (a ∷ xs) ys u = unused_one unit a xs (unused_head unit a (xs ++ ys) u) (unused_front unit xs ys (unused_tail unit a (xs ++ ys) u))

-- what is passed on the way is not unused
passed : (unit : ℕ) (xs : List Crossing) (c : Crossing) (ys : List Crossing) → Unused unit (xs ++ (c ∷ ys)) → c.unit ≡ unit → ⊥
passed unit [] c ys u = unused_head unit c ys u
passed unit (a ∷ xs) c ys u = passed unit xs c ys (unused_tail unit a (xs ++ (c ∷ ys)) u)

unused_then : (unit : ℕ) (xs : List Crossing) (c : Crossing) → Unused unit xs → (c.unit ≡ unit → ⊥) → Unused unit (xs ++ (c ∷ []))
unused_then unit [] c u ne = unused_one unit c [] ne (unused_none unit)
unused_then unit (a ∷ xs) c u ne = unused_one unit a (xs ++ (c ∷ [])) (unused_head unit a xs u) (unused_then unit xs c (unused_tail unit a xs u) ne)

path_then : {plan : Plan} {k s m : ℕ} (xs : List Crossing) (c : Crossing) → PathIn plan k s xs m → JoinsIn plan k m c (onward plan c) → Unused c.unit xs → PathIn plan k s (xs ++ (c ∷ [])) (onward plan c)
path_then [] c P K u = path_cons (rw (path_end P) K) (unused_none c.unit) (path_none refl)
path_then {plan = plan} {s = s} (a ∷ xs) c P K u =
    path_cons (path_head P) (unused_then a.unit xs c (path_unused P) (λ e. unused_head c.unit a xs u (sym e))) (path_then {s = onward plan a} xs c (path_tail P) K (unused_tail c.unit a xs u))

same_crossing : (c d : Crossing) → c.unit ≡ d.unit → c.enter ≡ d.enter → c.leave ≡ d.leave → c ≡ d
same_crossing c d u e l =
    ap {B = Crossing} (λ x. record { unit = x; enter = c.enter; leave = c.leave }) u
    ∙ ap {B = Crossing} (λ x. record { unit = d.unit; enter = x; leave = c.leave }) e
    ∙ ap {B = Crossing} (λ x. record { unit = d.unit; enter = d.enter; leave = x }) l

-- ---- a path by one more link: it does not use it, or passes it once
-- a path off a unit does not use the unit's link
off_unit : {plan : Plan} {k s t : ℕ} (cs : List Crossing) → Unused (unit_of k) cs → PathIn plan (k + 1) s cs t → PathIn plan k s cs t
off_unit [] u P = path_none (path_end P)
off_unit {plan = plan} {k = k} {s = s} (c ∷ cs) u P =
    let head = path_head P in
    let other = unused_head (unit_of k) c cs u in
    let in-unit = head.joins.entered in
    let in-unit2 = head.joins.left in
    path_cons (record { joins = head.joins; enters = under (enter_link c) head.enters (λ e. other (omega arith)); leaves = under (leave_link c) head.leaves (λ e. other (omega arith)) })
    (path_unused P) (off_unit {s = onward plan c} cs (unused_tail (unit_of k) c cs u) (path_tail P))
  where
    under : (i : ℕ) → i < k + 1 → (i ≡ k → ⊥) → i < k
    under i h ne = elim (ℕ_discrete i k) [ yes e ↦ absurd (ne e) | no n ↦ omega arith ]

-- where a path passes link k
record Through (plan : Plan) (k s : ℕ) (cs : List Crossing) (t : ℕ) : Type 0 where
  pub before : List Crossing
  pub crossing : Crossing
  pub after : List Crossing
  pub whole : cs ≡ before ++ (crossing ∷ after)
  pub joins : Joins plan (segment_of plan (enter_link crossing)) crossing (onward plan crossing)
  pub to : PathIn plan k s before (segment_of plan (enter_link crossing))
  pub from : PathIn plan k (onward plan crossing) after t
  pub is : crossing.unit ≡ unit_of k
  pub free : Unused (unit_of k) before
  pub free2 : Unused (unit_of k) after
  pub side : ((enter_link crossing ≡ k) × (leave_link crossing < k)) ⊎ ((leave_link crossing ≡ k) × (enter_link crossing < k))

split : {plan : Plan} {k s t : ℕ} (cs : List Crossing) → PathIn plan (k + 1) s cs t → PathIn plan k s cs t ⊎ Through plan k s cs t
split [] P = inl (path_none (path_end P))
split {plan} {k} {s} {t} (c ∷ cs) P = go (split {s = onward plan c} cs (path_tail P)) (ℕ_discrete (enter_link c) k) (ℕ_discrete (leave_link c) k)
  where
    head : JoinsIn plan (k + 1) s c (onward plan c)
    head = path_head P

    here : ((enter_link c ≡ k) × (leave_link c < k)) ⊎ ((leave_link c ≡ k) × (enter_link c < k)) → c.unit ≡ unit_of k → Through plan k s (c ∷ cs) t
    here side is =
        let u : Unused (unit_of k) cs = rw is at (path_unused P) in
        record {
          before = [];
          crossing = c;
          after = cs;
          whole = refl;
          joins = rw (← head.joins.from) at head.joins;
          to = path_none (sym head.joins.from);
          from = off_unit cs u (path_tail P);
          is = is;
          free = unused_none (unit_of k);
          free2 = u;
          side = side;
        }

    below : (i : ℕ) → i < k + 1 → (i ≡ k → ⊥) → i < k
    below i h ne = elim (ℕ_discrete i k) [ yes e ↦ absurd (ne e) | no n ↦ omega arith ]

    go : PathIn plan k (onward plan c) cs t ⊎ Through plan k (onward plan c) cs t → Dec (enter_link c ≡ k) → Dec (leave_link c ≡ k) → PathIn plan k s (c ∷ cs) t ⊎ Through plan k s (c ∷ cs) t
    go later (yes e) d =
        let in-unit = head.joins.entered in
        inr (here (inl (e, below (leave_link c) head.leaves (λ f. head.joins.further (omega arith)))) (omega arith))
    go later (no n) (yes e) =
        let in-unit = head.joins.left in
        inr (here (inr (e, below (enter_link c) head.enters n)) (omega arith))
    go (inl Q) (no n) (no m) = inl (path_cons (record { joins = head.joins; enters = below (enter_link c) head.enters n; leaves = below (leave_link c) head.leaves m }) (path_unused P) Q)
    go (inr T) (no n) (no m) =
        let u : Unused c.unit (T.before ++ (T.crossing ∷ T.after)) = rw T.whole at (path_unused P) in
        inr (record {
          before = c ∷ T.before;
          crossing = T.crossing;
          after = T.after;
          whole = ap {B = List Crossing} (λ l. c ∷ l) T.whole;
          joins = T.joins;
          to = path_cons (record { joins = head.joins; enters = below (enter_link c) head.enters n; leaves = below (leave_link c) head.leaves m }) (unused_front c.unit T.before (T.crossing ∷ T.after) u) T.to;
          from = T.from;
          is = T.is;
          free = unused_one (unit_of k) c T.before (λ e. passed c.unit T.before T.crossing T.after u (T.is ∙ sym e)) T.free;
          free2 = T.free2;
          side = T.side;
        })

-- ---- one path at most
pub Single : Plan → ℕ → Type 0
Single plan k = (s t : ℕ) (one other : List Crossing) → PathIn plan k s one t → PathIn plan k s other t → one ≡ other

pub single_start : (plan : Plan) → Single plan 0
unfolding Single
single_start plan s t [] [] P Q = refl
single_start plan s t [] (d ∷ ds) P Q = absurd (none (enter_link d) (path_head Q).enters)
  where
    none : (i : ℕ) → i < 0 → ⊥
    none i h = omega arith
single_start plan s t (c ∷ cs) other P Q = absurd (none (enter_link c) (path_head P).enters)
  where
    none : (i : ℕ) → i < 0 → ⊥
    none i h = omega arith

-- a link that leads nowhere adds no path
pub single_past : (plan : Plan) (k : ℕ) → segment_of plan k ≡ 0 → Single plan k → Single plan (k + 1)
unfolding Single
single_past plan k z S s t one other P Q = ⊎_elim (λ a. ⊎_elim (λ b. S s t one other a b) (λ T. absurd (none other T)) (split other Q)) (λ T. absurd (none one T)) (split one P)
  where
    none : (cs : List Crossing) → Through plan k s cs t → ⊥
    none cs T = ⊎_elim (λ e. T.joins.segment (ap (segment_of plan) e.0 ∙ z)) (λ e. T.joins.used (ap (segment_of plan) e.0 ∙ z)) T.side

module _ (plan : Plan) (k : ℕ) (labels : List ℕ) (S : Single plan k) (B : Labeled plan k labels) (apart : label labels (segment_of plan k) ≡ label labels (unit_node (unit_of k)) → ⊥) where
  -- the unit's label is that of each segment on it
  unit_label : (i unit : ℕ) → i < k → unit_of i ≡ unit → unit ≡ unit_of k → (segment_of plan i ≡ 0 → ⊥) → label labels (segment_of plan i) ≡ label labels (unit_node (unit_of k))
  unit_label i unit h e f u = B.same i h u ∙ ap (λ (x : ℕ). label labels (unit_node x)) (e ∙ f)

  module _ {s t : ℕ} {cs : List Crossing} (T : Through plan k s cs t) where
    in_labels : enter_link T.crossing ≡ k → leave_link T.crossing < k → (label labels s ≡ label labels (segment_of plan k)) × (label labels t ≡ label labels (unit_node (unit_of k)))
    in_labels e l =
        let in-unit = T.joins.left in (
          label_path T.before B T.to ∙ ap (λ (i : ℕ). label labels (segment_of plan i)) e,
          sym (label_path T.after B T.from) ∙ unit_label (leave_link T.crossing) T.crossing.unit l (omega arith) T.is T.joins.used,
        )

    out_labels : leave_link T.crossing ≡ k → enter_link T.crossing < k → (label labels s ≡ label labels (unit_node (unit_of k))) × (label labels t ≡ label labels (segment_of plan k))
    out_labels e l =
        let in-unit = T.joins.entered in (
          label_path T.before B T.to ∙ unit_label (enter_link T.crossing) T.crossing.unit l (omega arith) T.is T.joins.segment,
          sym (label_path T.after B T.from) ∙ ap (λ (i : ℕ). label labels (segment_of plan i)) e,
        )

    -- a path that passes the link joins what was apart
    crosses_over : label labels s ≡ label labels t → ⊥
    crosses_over same =
        ⊎_elim
        (λ e. let p = in_labels e.0 e.1 in apart (sym p.0 ∙ same ∙ p.1))
        (λ e. let p = out_labels e.0 e.1 in apart (sym p.1 ∙ sym same ∙ p.0))
        T.side

  -- the unit from one of its ports to another
  module _ {s t s' t' : ℕ} (c d : Crossing) (C : Joins plan s c t) (D : Joins plan s' d t') (unit : c.unit ≡ d.unit) where
    by_leaves : leave_link c < k → leave_link d < k → (c.leave ≡ d.leave → ⊥) → JoinsIn plan k (onward plan c) (record { unit = c.unit; enter = c.leave; leave = d.leave }) (onward plan d)
    by_leaves lc ld ne = record {
      joins = record { planned = C.planned; entered = C.left; left = D.left; further = ne; from = refl; to = rw unit; segment = rw C.to C.used; used = rw D.to D.used };
      enters = lc;
      leaves = rw unit ld;
    }

    by_enters : enter_link c < k → enter_link d < k → (c.enter ≡ d.enter → ⊥) → JoinsIn plan k (segment_of plan (enter_link c)) (record { unit = c.unit; enter = c.enter; leave = d.enter }) (segment_of plan (enter_link d))
    by_enters lc ld ne = record {
      joins = record { planned = C.planned; entered = C.entered; left = D.entered; further = ne; from = refl; to = rw unit; segment = rw C.from C.segment; used = rw D.from D.segment };
      enters = lc;
      leaves = rw unit ld;
    }

  module _ {s t : ℕ} {one other : List Crossing} (T : Through plan k s one t) (U : Through plan k s other t) where
    unit_same : T.crossing.unit ≡ U.crossing.unit
    unit_same = T.is ∙ sym U.is

    together : T.before ≡ U.before → T.crossing ≡ U.crossing → T.after ≡ U.after → one ≡ other
    together p q r = T.whole ∙ rw (p, q, r) (sym U.whole)

    both_in : enter_link T.crossing ≡ k → leave_link T.crossing < k → enter_link U.crossing ≡ k → leave_link U.crossing < k → one ≡ other
    unfolding Single
    both_in e l f m = elim (ℕ_discrete T.crossing.leave U.crossing.leave) [
      | yes same ↦
          let c : T.crossing ≡ U.crossing = same_crossing T.crossing U.crossing unit_same (enter_same (e ∙ sym f) unit_same) same in
          together front c (S (onward plan T.crossing) t T.after U.after T.from (rw c U.from))
      | no ne ↦
          let K = by_leaves T.crossing U.crossing T.joins U.joins unit_same l m ne in
          let d : Crossing = record { unit = T.crossing.unit; enter = T.crossing.leave; leave = U.crossing.leave } in
          let z = S (onward plan T.crossing) t T.after (d ∷ U.after) T.from (path_cons (rw (← K.joins.to) at K) (rw T.is U.free2) (rw unit_same U.from)) in
          absurd (unused_head (unit_of k) d U.after (rw z at T.free2) T.is)
    ]
      where
        front : T.before ≡ U.before
        front = S s (segment_of plan k) T.before U.before (rw e at T.to) (rw f at U.to)

        enter_same : enter_link T.crossing ≡ enter_link U.crossing → T.crossing.unit ≡ U.crossing.unit → T.crossing.enter ≡ U.crossing.enter
        enter_same p q = omega arith

    both_out : leave_link T.crossing ≡ k → enter_link T.crossing < k → leave_link U.crossing ≡ k → enter_link U.crossing < k → one ≡ other
    unfolding Single
    both_out e l f m = elim (ℕ_discrete T.crossing.enter U.crossing.enter) [
      | yes same ↦
          let c : T.crossing ≡ U.crossing = same_crossing T.crossing U.crossing unit_same same (leave_same (e ∙ sym f) unit_same) in
          together (S s (segment_of plan (enter_link T.crossing)) T.before U.before T.to (rw c U.to)) c rear
      | no ne ↦
          let K = by_enters T.crossing U.crossing T.joins U.joins unit_same l m ne in
          let d : Crossing = record { unit = T.crossing.unit; enter = T.crossing.enter; leave = U.crossing.enter } in
          let z = S s (segment_of plan (enter_link U.crossing)) U.before (T.before ++ (d ∷ [])) U.to (rw K.joins.to at (path_then T.before d T.to (rw (← K.joins.to) at K) (rw T.is T.free))) in
          absurd (passed (unit_of k) T.before d [] (rw z at U.free) T.is)
    ]
      where
        rear : T.after ≡ U.after
        rear = S (segment_of plan k) t T.after U.after (rw e at T.from) (rw f at U.from)

        leave_same : leave_link T.crossing ≡ leave_link U.crossing → T.crossing.unit ≡ U.crossing.unit → T.crossing.leave ≡ U.crossing.leave
        leave_same p q = omega arith

    both_through : one ≡ other
    both_through =
        ⊎_elim
        (λ e. ⊎_elim
        (λ f. both_in e.0 e.1 f.0 f.1)
        (λ f. absurd (apart (sym (in_labels T e.0 e.1).0 ∙ (out_labels U f.0 f.1).0)))
        U.side)
        (λ e. ⊎_elim
        (λ f. absurd (apart (sym (in_labels U f.0 f.1).0 ∙ (out_labels T e.0 e.1).0)))
        (λ f. both_out e.0 e.1 f.0 f.1)
        U.side)
        T.side

  pub single_more : Single plan (k + 1)
  unfolding Single
  single_more s t one other P Q = ⊎_elim
      (λ a. ⊎_elim (λ b. S s t one other a b) (λ U. absurd (crosses_over U (label_path one B a))) (split other Q))
      (λ T. ⊎_elim (λ b. absurd (crosses_over T (label_path other B b))) (λ U. both_through T U) (split other Q))
      (split one P)

-- ---- what that says of the plan
-- each path is by the plan's links
all_within : (plan : Plan) (s : ℕ) (cs : List Crossing) (t : ℕ) → Path plan s cs t → PathIn plan (port_count * plan.units) s cs t
unfolding Within Leads
all_within plan s cs t P = record { leads = P.leads; once = P.once; within = go s cs P.leads }
  where
    go : (s : ℕ) (cs : List Crossing) → Leads plan s cs t → Within (port_count * plan.units) cs
    go s [] L = tt
    go s (c ∷ cs) L =
        let planned = L.0.planned in
        let entered = L.0.entered in
        let left = L.0.left in
        ((omega arith, omega arith), go (onward plan c) cs L.1)

-- two ports of a unit on one segment are two paths from it to itself
two_ports : (plan : Plan) → TwoPorts plan → TwoPaths plan
unfolding Leads NoUnitTwice Unused
two_ports plan T = record {
  from = segment_at plan T.unit T.port;
  to = segment_at plan T.unit T.port;
  one = [];
  other = record { unit = T.unit; enter = T.port; leave = T.port2 } ∷ [];
  path = record { leads = refl; once = tt };
  path2 = record {
    leads = (record { planned = T.planned; entered = T.in_unit; left = T.in_unit2; further = T.different; from = refl; to = refl; segment = T.used; used = rw (← T.same) T.used }, sym T.same);
    once = (tt, tt);
  };
  different = λ e. let z : ◌≡◌ {A = ℕ} 0 1 = ap length e in omega arith;
}

pub no_ring : (plan : Plan) (k : ℕ) → k ≡ port_count * plan.units → Single plan k → Ringed plan → ⊥
unfolding Single
no_ring plan k e S R = ⊎_elim two (λ T. two (two_ports plan T)) R
  where
    two : TwoPaths plan → ⊥
    two T = T.different (S T.from T.to T.one T.other (rw e (all_within plan T.from T.one T.to T.path)) (rw e (all_within plan T.from T.other T.to T.path2)))

-- a link whose segment and unit are joined already makes a second path
module _ (plan : Plan) (k : ℕ) (labels : List ℕ) (L : Linked plan) (h : k < port_count * plan.units) (u : segment_of plan k ≡ 0 → ⊥) where
  second_path : (cs : List Crossing) (i : ℕ) → PathIn plan k (segment_of plan k) cs (segment_of plan i) → Unused (unit_of k) cs → i < k → unit_of i ≡ unit_of k → (segment_of plan i ≡ 0 → ⊥) → TwoPaths plan
  unfolding Leads NoUnitTwice Unused
  second_path cs i P free l e v =
      let K = crossed {plan = plan} {k = k + 1} k i L (omega arith) (omega arith) (omega arith) (sym e) (λ z. omega arith) u v in
      record {
        from = segment_of plan k;
        to = segment_of plan i;
        one = cs;
        other = between k i ∷ [];
        path = record { leads = P.leads; once = P.once };
        path2 = record { leads = ((rw (← K.joins.to) at K.joins), K.joins.to); once = (tt, tt) };
        different = λ z. unused_head (unit_of k) (between k i) [] (rw z at free) refl;
      }

  pub ring_found : Labeled plan k labels → label labels (segment_of plan k) ≡ label labels (unit_node (unit_of k)) → Ringed plan
  ring_found B e = ⊎_elim (λ z. absurd (omega (arith, L.in_range k h))) joint (B.tied (segment_of plan k) (unit_node (unit_of k)) (omega (arith, L.in_range k h)) (omega (arith, L.few)) e)
    where
      met : {s : ℕ} (j : ℕ) → segment_of plan k ≡ s → j < k → unit_of j ≡ unit_of k → (segment_of plan j ≡ 0 → ⊥) → Conn plan k s (segment_of plan j) → TwoPaths plan
      met j z l f v C =
          let P = rw (← z) at C.path in
          ⊎_elim
          (λ free. second_path C.crossings j P free l f v)
          (λ U. second_path U.crossings U.link U.path U.free U.below U.on U.used)
          (up_to (unit_of k) C.crossings P)

      ends : {s t : ℕ} → On plan k (segment_of plan k) s → On plan k (unit_node (unit_of k)) t → Conn plan k s t → TwoPaths plan
      ends (itself z m) (itself f n) C = absurd (omega arith)
      ends (itself z m) (linked j l f g v) C = met j z l (omega arith) (rw g v) (rw (← g) at C)
      ends (linked i l z g v) on C = absurd (omega (arith, L.in_range k h))

      joint : Joint plan k (segment_of plan k) (unit_node (unit_of k)) → Ringed plan
      joint T = inl (ends T.on T.on2 T.conn)

-- ---- after k links, none of which joined what was joined
pub record Ringless (plan : Plan) (k : ℕ) (labels : List ℕ) : Type 0 where
  pub within : k ≤ port_count * plan.units
  pub labeled : Labeled plan k labels
  pub single : Single plan k

module _ {plan : Plan} where
  pub ringless_start : {labels : List ℕ} → Numbered labels → Ringless plan 0 labels
  ringless_start N = record { within = omega arith; labeled = labeled_start N.long N.own; single = single_start plan }

  module _ {k : ℕ} {before after : List ℕ} {r : Bool} (L : Linked plan) (h : k < port_count * plan.units) (K : Linking plan.ports k before after r) (G : Ringless plan k before) where
    -- a link that joins what was apart
    pub ringless_more : r ≡ false → Ringless plan (k + 1) after
    ringless_more e = ⊎_elim
        (λ z. record { within = omega arith; labeled = rw z.1 (labeled_past z.0 G.labeled); single = single_past plan k z.0 G.single })
        (λ z. record { within = omega arith; labeled = labeled_more L h z.0 G.labeled z.1.1; single = single_more plan k before G.single G.labeled z.1.0 })
        (K.joined e)

    -- one that does not
    pub ringed : r ≡ true → Ringed plan
    ringed e = ring_found plan k before L h (K.again e).0 G.labeled (K.again e).1

  pub ringless_done : {k : ℕ} {labels : List ℕ} → port_count * plan.units ≤ k → Ringless plan k labels → Ringed plan → ⊥
  ringless_done {k} h G = no_ring plan k (omega (arith, G.within)) G.single
