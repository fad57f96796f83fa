-- Labels: equal labels are joined by links, and joined have equal labels. Assumes nothing.
use mathlib.Core.Path.{◌≡◌, refl, sym, ap, ◌∙◌}
use mathlib.Core.Bool.{Bool, true, false, cond}
use mathlib.Core.Logic.{◌⊎◌, inl, inr}
use mathlib.Core.List.{List, [], ◌∷◌}
use Prim.Native.Nat.{ℕ, ◌+◌, ◌*◌, ◌/◌, ◌%◌, ◌≤◌, ◌<◌}
use native.Mathlib.Decide.{ℕ_discrete, dec_lt}
use native.Mathlib.Omega.{arith}
use borrow.Author.Tests.{eqb-true, eq-eqb}
use lib.ListN.{length}
use lib.Dec.{eqb}
use Rattle.plan_shape.specs.Plan.{Plan, Crossing, most_segments, most_units, port_count, onward}
use Rattle.plan_rings.specs.Rings.{unit_node, nodes, label, Fresh, Relabeled}
use Rattle.plan_rings.proofs.PathsIn.{segment_of, unit_of, enter_link, leave_link, between, JoinsIn, PathIn, Conn, path_end, path_head, path_tail, conn_none, conn_more, conn_trans, conn_one, conn_sym}

-- the plan's links lead to segments of the plan
pub record Linked (plan : Plan) : Type 0 where
  pub few : plan.units ≤ most_units
  pub in_range : (i : ℕ) → i < port_count * plan.units → segment_of plan i ≤ most_segments

-- ---- a segment is on a node: it is the node, or a link below k leads from the unit to it
pub data On (plan : Plan) (k x s : ℕ) : Type 0 where
  itself : x ≡ s → s ≤ most_segments → On plan k x s
  linked : (j : ℕ) → j < k → x ≡ unit_node (unit_of j) → segment_of plan j ≡ s → (s ≡ 0 → ⊥) → On plan k x s

on_more : {plan : Plan} {k x s : ℕ} → On plan k x s → On plan (k + 1) x s
on_more {k = k} (itself e h) = itself e h
on_more {k = k} (linked j l e f u) = linked j (omega arith) e f u

-- two links of one unit make a crossing
pub crossed : {plan : Plan} {k : ℕ} (i j : ℕ) → Linked plan → k ≤ port_count * plan.units → i < k → j < k → unit_of i ≡ unit_of j → (i ≡ j → ⊥) → (segment_of plan i ≡ 0 → ⊥) → (segment_of plan j ≡ 0 → ⊥) → JoinsIn plan k (segment_of plan i) (between i j) (segment_of plan j)
crossed i j L h li lj e ne ui uj =
    let ii : port_count * (i / port_count) + i % port_count ≡ i = omega arith in
    let jj : port_count * (i / port_count) + j % port_count ≡ j = omega arith in
    record {
      joins = record {
        planned = omega arith;
        entered = omega arith;
        left = omega arith;
        further = λ z. ne (omega arith);
        from = rw ii;
        to = rw jj;
        segment = ui;
        used = uj;
      };
      enters = omega arith;
      leaves = omega arith;
    }

-- the segments on one node are joined
on_same : {plan : Plan} {k x s t : ℕ} → Linked plan → k ≤ port_count * plan.units → On plan k x s → On plan k x t → Conn plan k s t
on_same L h (itself e m) (itself f n) = conn_none (sym e ∙ f)
on_same L h (itself e m) (linked j l f g u) = absurd (omega arith)
on_same L h (linked i k e f u) (itself g n) = absurd (omega arith)
on_same {plan} {k} {s = s} {t = t} L h (linked i l e f u) (linked j m g q v) = elim (ℕ_discrete i j) [
  | yes z ↦ conn_none (sym f ∙ ap (segment_of plan) z ∙ q)
  | no ne ↦ rw (f, q) at (conn_one (between i j) (crossed i j L h l m (omega arith) ne (rw f u) (rw q v)))
]

-- ---- two nodes are tied
pub record Joint (plan : Plan) (k x y : ℕ) : Type 0 where
  pub one : ℕ
  pub other : ℕ
  pub on : On plan k x one
  pub on2 : On plan k y other
  pub conn : Conn plan k one other

abbrev pub Tied : Plan → ℕ → ℕ → ℕ → Type 0
Tied plan k x y = (x ≡ y) ⊎ Joint plan k x y

joint_more : {plan : Plan} {k x y : ℕ} → Joint plan k x y → Joint plan (k + 1) x y
joint_more T = record { one = T.one; other = T.other; on = on_more T.on; on2 = on_more T.on2; conn = conn_more T.conn }

tied_more : (plan : Plan) (k x y : ℕ) → Tied plan k x y → Tied plan (k + 1) x y
tied_more plan k x y (inl e) = inl e
tied_more plan k x y (inr T) = inr (joint_more T)

tied_sym : (plan : Plan) (k x y : ℕ) → Tied plan k x y → Tied plan k y x
tied_sym plan k x y (inl e) = inl (sym e)
tied_sym plan k x y (inr T) = inr (record { one = T.other; other = T.one; on = T.on2; on2 = T.on; conn = conn_sym T.conn })

tied_trans : (plan : Plan) (k x y z : ℕ) → Linked plan → k ≤ port_count * plan.units → Tied plan k x y → Tied plan k y z → Tied plan k x z
tied_trans plan k x y z L h (inl e) T = rw e T
tied_trans plan k x y z L h (inr T) (inl e) = inr (rw e at T)
tied_trans plan k x y z L h (inr T) (inr S) =
    inr (record { one = T.one; other = S.other; on = T.on; on2 = S.on2; conn = conn_trans T.conn (conn_trans (on_same L h T.on2 S.on) S.conn) })

-- a link ties its segment to its unit
tied_link : (plan : Plan) (k : ℕ) → segment_of plan k ≤ most_segments → (segment_of plan k ≡ 0 → ⊥) → Tied plan (k + 1) (segment_of plan k) (unit_node (unit_of k))
tied_link plan k m u = inr (record { one = segment_of plan k; other = segment_of plan k; on = itself refl m; on2 = linked k (omega arith) refl refl u; conn = conn_none refl })

-- ---- the labels after k links
pub record Labeled (plan : Plan) (k : ℕ) (labels : List ℕ) : Type 0 where
  pub long : length labels ≡ nodes
  pub same : (i : ℕ) → i < k → (segment_of plan i ≡ 0 → ⊥) → label labels (segment_of plan i) ≡ label labels (unit_node (unit_of i))
  pub tied : (x y : ℕ) → x < nodes → y < nodes → label labels x ≡ label labels y → Tied plan k x y
  pub fresh : Fresh labels

pub labeled_start : {plan : Plan} {labels : List ℕ} → length labels ≡ nodes → ((i : ℕ) → i < nodes → label labels i ≡ i) → Labeled plan 0 labels
labeled_start long own = record {
  long = long;
  same = λ i h u. absurd (none i h);
  tied = λ x y hx hy e. inl (sym (own x hx) ∙ e ∙ own y hy);
  fresh = λ x hx _. own x hx;
}
  where
    none : (i : ℕ) → i < 0 → ⊥
    none i h = omega arith

pub labeled_past : {plan : Plan} {k : ℕ} {labels : List ℕ} → segment_of plan k ≡ 0 → Labeled plan k labels → Labeled plan (k + 1) labels
labeled_past {plan} {k} {labels} z B = record {
  long = B.long;
  same = earlier;
  tied = λ x y hx hy e. tied_more plan k x y (B.tied x y hx hy e);
  fresh = B.fresh;
}
  where
    earlier : (i : ℕ) → i < k + 1 → (segment_of plan i ≡ 0 → ⊥) → label labels (segment_of plan i) ≡ label labels (unit_node (unit_of i))
    earlier i h u = elim (ℕ_discrete i k) [
      | yes e ↦ absurd (u (ap (segment_of plan) e ∙ z))
      | no ne ↦ B.same i (omega arith) u
    ]

module _ {plan : Plan} {k : ℕ} {before after : List ℕ} (L : Linked plan) (h : k < port_count * plan.units) (u : segment_of plan k ≡ 0 → ⊥) (B : Labeled plan k before)
    (R : Relabeled (label before (unit_node (unit_of k))) (label before (segment_of plan k)) before after) where
  relabel_at : (x : ℕ) → x < nodes → (b : Bool) → eqb (label before x) (label before (unit_node (unit_of k))) ≡ b → label after x ≡ cond b (label before (segment_of plan k)) (label before x)
  relabel_at x l b e = R.at x (omega (arith, B.long)) ∙ rw e

  -- what had one label still has
  relabel_same : (x y : ℕ) → x < nodes → y < nodes → label before x ≡ label before y → label after x ≡ label after y
  relabel_same x y lx ly e = R.at x (omega (arith, B.long)) ∙ rw e (sym (R.at y (omega (arith, B.long))))

  segment_small : segment_of plan k < nodes
  segment_small = omega (arith, L.in_range k h)

  unit_small : unit_node (unit_of k) < nodes
  unit_small = omega (arith, L.few)

  -- the link's two ends have one label now
  ends : label after (segment_of plan k) ≡ label after (unit_node (unit_of k))
  ends =
      go (eqb (label before (segment_of plan k)) (label before (unit_node (unit_of k)))) refl
      ∙ sym (relabel_at (unit_node (unit_of k)) unit_small true (eq-eqb (label before (unit_node (unit_of k))) (label before (unit_node (unit_of k))) refl))
    where
      go : (b : Bool) → eqb (label before (segment_of plan k)) (label before (unit_node (unit_of k))) ≡ b → label after (segment_of plan k) ≡ label before (segment_of plan k)
      go true e = relabel_at (segment_of plan k) segment_small true e
      go false e = relabel_at (segment_of plan k) segment_small false e

  more_same : (i : ℕ) → i < k + 1 → (segment_of plan i ≡ 0 → ⊥) → label after (segment_of plan i) ≡ label after (unit_node (unit_of i))
  more_same i l v = elim (ℕ_discrete i k) [
    | yes e ↦ rw e ends
    | no ne ↦ relabel_same (segment_of plan i) (unit_node (unit_of i)) (omega (arith, L.in_range i (omega arith))) (omega (arith, L.few)) (B.same i (omega arith) v)
  ]

  -- from the side of the segment to the side of the unit
  over : (x y : ℕ) → x < nodes → y < nodes → label before x ≡ label before (segment_of plan k) → label before y ≡ label before (unit_node (unit_of k)) → Tied plan (k + 1) x y
  over x y lx ly e f =
      tied_trans plan (k + 1) x (segment_of plan k) y L (omega arith)
      (tied_more plan k x (segment_of plan k) (B.tied x (segment_of plan k) lx segment_small e))
      (tied_trans plan (k + 1) (segment_of plan k) (unit_node (unit_of k)) y L (omega arith)
      (tied_link plan k (L.in_range k h) u)
      (tied_more plan k (unit_node (unit_of k)) y (B.tied (unit_node (unit_of k)) y unit_small ly (sym f))))

  more_tied : (x y : ℕ) → x < nodes → y < nodes → label after x ≡ label after y → Tied plan (k + 1) x y
  more_tied x y lx ly e = go (eqb (label before x) (label before (unit_node (unit_of k)))) refl (eqb (label before y) (label before (unit_node (unit_of k)))) refl
    where
      go : (b : Bool) → eqb (label before x) (label before (unit_node (unit_of k))) ≡ b → (d : Bool) → eqb (label before y) (label before (unit_node (unit_of k))) ≡ d → Tied plan (k + 1) x y
      go true p true q = tied_more plan k x y (B.tied x y lx ly (eqb-true _ _ p ∙ sym (eqb-true _ _ q)))
      go true p false q = tied_sym plan (k + 1) y x (over y x ly lx (sym (relabel_at y ly false q) ∙ sym e ∙ relabel_at x lx true p) (eqb-true _ _ p))
      go false p true q = over x y lx ly (sym (relabel_at x lx false p) ∙ e ∙ relabel_at y ly true q) (eqb-true _ _ q)
      go false p false q = tied_more plan k x y (B.tied x y lx ly (sym (relabel_at x lx false p) ∙ e ∙ relabel_at y ly false q))

  -- the segment's label is a segment's
  more_fresh : Fresh after
  more_fresh x l = go (eqb (label before x) (label before (unit_node (unit_of k)))) refl
    where
      segments : label before (segment_of plan k) ≤ most_segments
      segments = elim (dec_lt most_segments (label before (segment_of plan k))) [
        | yes m ↦ absurd (omega (arith, B.fresh (segment_of plan k) segment_small m, L.in_range k h))
        | no m ↦ omega (arith, m)
      ]

      go : (b : Bool) → eqb (label before x) (label before (unit_node (unit_of k))) ≡ b → most_segments < label after x → label after x ≡ x
      go true e m = absurd (omega (arith, relabel_at x l true e, segments))
      go false e m = relabel_at x l false e ∙ B.fresh x l (omega (arith, relabel_at x l false e))

  pub labeled_more : Labeled plan (k + 1) after
  labeled_more = record { long = R.long ∙ B.long; same = more_same; tied = more_tied; fresh = more_fresh }

-- ---- a path leads to the same label
pub label_path : {plan : Plan} {k s t : ℕ} {labels : List ℕ} (cs : List Crossing) → Labeled plan k labels → PathIn plan k s cs t → label labels s ≡ label labels t
label_path {labels = labels} [] B P = ap (label labels) (path_end P)
label_path {plan} {labels = labels} (c ∷ cs) B P =
    let head = path_head P in
    let in-unit = head.joins.entered in
    let in-unit2 = head.joins.left in
    let ue : unit_of (enter_link c) ≡ c.unit = omega arith in
    let ul : unit_of (leave_link c) ≡ c.unit = omega arith in
    let enters : label labels (segment_of plan (enter_link c)) ≡ label labels (unit_node c.unit) = rw ue at (B.same (enter_link c) head.enters (rw head.joins.from head.joins.segment)) in
    let leaves : label labels (segment_of plan (leave_link c)) ≡ label labels (unit_node c.unit) = rw ul at (B.same (leave_link c) head.leaves head.joins.used) in
    ap (label labels) (sym head.joins.from) ∙ enters ∙ sym leaves ∙ label_path {s = onward plan c} cs B (path_tail P)
