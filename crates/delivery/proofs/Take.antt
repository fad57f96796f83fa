-- A take: which frame it gives, and how many are before a waiting frame when it is made, by induction on the row. Assumes nothing.
use mathlib.Core.Path.{◌≡◌, refl, ◌∙◌}
use mathlib.Core.Bool.{Bool, true, false}
use mathlib.Core.List.{List, [], ◌∷◌, ◌++◌, append_assoc, append-nil}
use Rattle.std.specs.Prelude.{None, Some}
use Prim.Native.Nat.{ℕ, suc, ◌+◌, ◌≤◌, ◌<◌}
use native.Mathlib.Omega.{arith}
use lib.Dec.{leb, ltb}
use borrow.Author.Tests.{leb-true, leb-false, ltb-true, ltb-false, le-leb, lt-leb, lt-ltb, le-ltb}
use Rattle.delivery.specs.Row.{Pulled, pull, given, kept, All, Pulls, nothing, first}
use Rattle.delivery.specs.Port.{count}

module _ {F : Type 0} where
  pub all_append : (P : F → Type 0) (a b : List F) → All P a → All P b → All P (a ++ b)
  all_append P [] b p q = q
  all_append P (x ∷ a) b p q = (p.0, all_append P a b p.1 q)

  pub all_left : (P : F → Type 0) (a b : List F) → All P (a ++ b) → All P a
  all_left P [] b p = tt
  all_left P (x ∷ a) b p = (p.0, all_left P a b p.1)

  pub all_right : (P : F → Type 0) (a b : List F) → All P (a ++ b) → All P b
  all_right P [] b p = p
  all_right P (x ∷ a) b p = all_right P a b p.1

  pub all_map : (P Q : F → Type 0) → ((x : F) → P x → Q x) → (a : List F) → All P a → All Q a
  all_map P Q f [] p = tt
  all_map P Q f (x ∷ a) p = (f x p.0, all_map P Q f a p.1)

module _ {F : Type 0} (priority : F → ℕ) where
  -- The answer of a take at a row, where the answer behind the first frame is known.
  from_nothing : (x : F) (b : List F) → pull priority b ≡ None → pull priority (x ∷ b) ≡ Some (record { frame = x; others = b })
  from_nothing x b e = rw e

  from_first : (x : F) (b : List F) (p : Pulled F) → pull priority b ≡ Some p → priority x ≤ priority p.frame
      → pull priority (x ∷ b) ≡ Some (record { frame = x; others = b })
  from_first x b p e h = rw (e, le-leb)

  from_later : (x : F) (b : List F) (p : Pulled F) → pull priority b ≡ Some p → priority p.frame < priority x
      → pull priority (x ∷ b) ≡ Some (record { frame = p.frame; others = x ∷ p.others })
  from_later x b p e h = rw (e, lt-leb)

  -- ---- the rule without a recursion
  pulls_step : (x : F) (b u v : List F) (m : F) → b ≡ u ++ m ∷ v → pull priority b ≡ Some (record { frame = m; others = u ++ v })
      → All (λ y. priority m < priority y) u → All (λ y. priority m ≤ priority y) v → (s : Bool) → leb (priority x) (priority m) ≡ s → Pulls priority (x ∷ b)
  pulls_step x b u v m e g p q true k =
      let l = leb-true (priority x) (priority m) k in
      let w : All (λ y. priority x ≤ priority y) (u ++ m ∷ v) =
      all_append (λ y. priority x ≤ priority y) u (m ∷ v)
      (all_map (λ y. priority m < priority y) (λ y. priority x ≤ priority y) (λ y h. omega arith) u p)
      (l, all_map (λ y. priority m ≤ priority y) (λ y. priority x ≤ priority y) (λ y h. omega arith) v q) in
      first [] b x refl (from_first x b _ g l) tt (rw e w)
  pulls_step x b u v m e g p q false k =
      let l = leb-false (priority x) (priority m) k in
      first (x ∷ u) v m (rw e) (from_later x b _ g l) (l, p) q

  -- At every row a take does what `Pulls` says.
  pub pulls : (row : List F) → Pulls priority row
  pulls [] = nothing refl refl
  pulls (x ∷ b) = go (pulls b)
    where
      go : Pulls priority b → Pulls priority (x ∷ b)
      go (nothing e g) = first [] [] x (rw e) (from_nothing x b g ∙ rw e) tt tt
      go (first u v m e g p q) = pulls_step x b u v m e g p q (leb (priority x) (priority m)) refl

  -- A take leaves frames of the row.
  pub kept_all : (P : F → Type 0) (b : List F) → All P b → All P (kept (pull priority b))
  kept_all P b w = go (pulls b)
    where
      go : Pulls priority b → All P (kept (pull priority b))
      go (nothing e g) = rw g tt
      go (first u v m e g p q) =
          let z : All P (u ++ m ∷ v) = rw e at w in
          rw g (all_append P u v (all_left P u (m ∷ v) z) (all_right P u (m ∷ v) z).1)

  -- A take gives a frame of the row.
  pub given_all : (P : F → Type 0) (b : List F) → All P b → (f : F) → given (pull priority b) ≡ Some f → P f
  given_all P b w f h = go (pulls b)
    where
      go : Pulls priority b → P f
      go (nothing e g) =
          let z : given (pull priority b) ≡ None = rw g in
          let y : ◌≡◌ {A = ℕ} 0 1 = cc in absurd (omega arith)
      go (first u v m e g p q) =
          let j : P m = (all_right P u (m ∷ v) (rw e at w)).0 in
          let z : given (pull priority b) ≡ Some m = rw g in
          let y : m ≡ f = cc in
          rw y at j

  -- A frame with higher numbers before it and none lower behind it is the one that a take gives: `Pulls` settles the take.
  pub first_is : (u v : List F) (m : F) → All (λ y. priority m < priority y) u → All (λ y. priority m ≤ priority y) v
      → pull priority (u ++ m ∷ v) ≡ Some (record { frame = m; others = u ++ v })
  first_is [] v m p q = go (pulls v)
    where
      go : Pulls priority v → pull priority (m ∷ v) ≡ Some (record { frame = m; others = v })
      go (nothing e g) = from_nothing m v g
      go (first a b n e g c d) = from_first m v _ g (given_all (λ y. priority m ≤ priority y) v q n (rw g))
  first_is (y ∷ u) v m p q = from_later y (u ++ m ∷ v) _ (first_is u v m p.1 q) p.0

  -- One frame more at the row's end: it is given if its rank is higher than that of the frame that was.
  pub pull_snoc_lower : (row : List F) (x : F) (p : Pulled F) → pull priority row ≡ Some p → priority x < priority p.frame
      → pull priority (row ++ (x ∷ [])) ≡ Some (record { frame = x; others = row })
  pull_snoc_lower row x p h l = go (pulls row)
    where
      go : Pulls priority row → pull priority (row ++ (x ∷ [])) ≡ Some (record { frame = x; others = row })
      go (nothing e g) = let z : ◌≡◌ {A = ℕ} 0 1 = cc in absurd (omega arith)
      go (first u v m e g c d) =
          let w : p.frame ≡ m = cc in
          let k : priority p.frame ≡ priority m = rw w in
          let a : All (λ y. priority x < priority y) (u ++ m ∷ v) =
          all_append (λ y. priority x < priority y) u (m ∷ v)
          (all_map (λ y. priority m < priority y) (λ y. priority x < priority y) (λ y b. omega arith) u c)
          (omega arith, all_map (λ y. priority m ≤ priority y) (λ y. priority x < priority y) (λ y b. omega arith) v d) in
          first_is row [] x (rw e a) tt ∙ rw (append-nil row)

  pub pull_snoc_keep : (row : List F) (x : F) (p : Pulled F) → pull priority row ≡ Some p → priority p.frame ≤ priority x
      → pull priority (row ++ (x ∷ [])) ≡ Some (record { frame = p.frame; others = p.others ++ (x ∷ []) })
  pull_snoc_keep row x p h l = go (pulls row)
    where
      go : Pulls priority row → pull priority (row ++ (x ∷ [])) ≡ Some (record { frame = p.frame; others = p.others ++ (x ∷ []) })
      go (nothing e g) = let z : ◌≡◌ {A = ℕ} 0 1 = cc in absurd (omega arith)
      go (first u v m e g c d) =
          let w : p ≡ record { frame = m; others = u ++ v } = cc in
          let k : priority p.frame ≡ priority m = rw w in
          rw (e, w, append_assoc u (m ∷ v) (x ∷ []), append_assoc u v (x ∷ []))
          (first_is u (v ++ (x ∷ [])) m c (all_append (λ y. priority m ≤ priority y) v (x ∷ []) d (omega arith, tt)))

  -- A take gives nothing exactly at an empty row.
  pub none_given : (b : List F) → (given (pull priority b) ≡ None → b ≡ []) × (b ≡ [] → given (pull priority b) ≡ None)
  none_given b = (λ h. go h (pulls b), λ h. rw h)
    where
      go : given (pull priority b) ≡ None → Pulls priority b → b ≡ []
      go h (nothing e g) = e
      go h (first u v m e g p q) = let z : given (pull priority b) ≡ Some m = rw g in cc

module _ {F : Type 0} (priority : F → ℕ) where
  -- ---- how many are to leave before a frame
  -- The frames of a row whose number is at most v, and those whose number is below v.
  abbrev pub up_to : ℕ → List F → ℕ
  up_to v row = count (λ g. leb (priority g) v) row

  abbrev pub below : ℕ → List F → ℕ
  below v row = count (λ g. ltb (priority g) v) row

  below_yes : (v : ℕ) (x : F) (b : List F) → priority x < v → below v (x ∷ b) ≡ suc (below v b)
  below_yes v x b h = rw (lt-ltb (priority x) v h) (omega arith)

  below_no : (v : ℕ) (x : F) (b : List F) → v ≤ priority x → below v (x ∷ b) ≡ below v b
  below_no v x b h = rw (le-ltb (priority x) v h) (omega arith)

  up_to_yes : (v : ℕ) (x : F) (b : List F) → priority x ≤ v → up_to v (x ∷ b) ≡ suc (up_to v b)
  up_to_yes v x b h = rw (le-leb (priority x) v h) (omega arith)

  up_to_no : (v : ℕ) (x : F) (b : List F) → v < priority x → up_to v (x ∷ b) ≡ up_to v b
  up_to_no v x b h = rw (lt-leb (priority x) v h) (omega arith)

  module _ (P : F → Type 0) where
    -- A take at the frames behind one whose number is v.
    data Behind (v : ℕ) (b : List F) : Type 0 where
      bare : pull priority b ≡ None → below v b ≡ 0 → Behind v b
      quiet : (p : Pulled F) → pull priority b ≡ Some p → v ≤ priority p.frame → below v b ≡ 0 → Behind v b
      ahead : (p : Pulled F) → pull priority b ≡ Some p → priority p.frame < v → below v b ≡ suc (below v p.others)
          → (All P b → P p.frame × All P p.others) → Behind v b

    behind_bare : (v : ℕ) (x : F) (b : List F) → pull priority b ≡ None → below v b ≡ 0 → (t : Bool) → ltb (priority x) v ≡ t → Behind v (x ∷ b)
    behind_bare v x b e z true h =
        let l = ltb-true (priority x) v h in
        ahead (record { frame = x; others = b }) (from_nothing priority x b e) l (below_yes v x b l) (λ q. q)
    behind_bare v x b e z false h =
        let l = ltb-false (priority x) v h in
        quiet (record { frame = x; others = b }) (from_nothing priority x b e) l (below_no v x b l ∙ z)

    behind_quiet : (v : ℕ) (x : F) (b : List F) (p : Pulled F) → pull priority b ≡ Some p → v ≤ priority p.frame → below v b ≡ 0
        → (t : Bool) → ltb (priority x) v ≡ t → (s : Bool) → leb (priority x) (priority p.frame) ≡ s → Behind v (x ∷ b)
    behind_quiet v x b p e l z true h true k =
        let m = ltb-true (priority x) v h in
        ahead (record { frame = x; others = b }) (from_first priority x b p e (leb-true (priority x) (priority p.frame) k)) m (below_yes v x b m) (λ q. q)
    behind_quiet v x b p e l z true h false k = absurd (omega (arith, ltb-true (priority x) v h, leb-false (priority x) (priority p.frame) k))
    behind_quiet v x b p e l z false h true k =
        let m = ltb-false (priority x) v h in
        quiet (record { frame = x; others = b }) (from_first priority x b p e (leb-true (priority x) (priority p.frame) k)) m (below_no v x b m ∙ z)
    behind_quiet v x b p e l z false h false k =
        quiet (record { frame = p.frame; others = x ∷ p.others }) (from_later priority x b p e (leb-false (priority x) (priority p.frame) k)) l
        (below_no v x b (ltb-false (priority x) v h) ∙ z)

    behind_ahead : (v : ℕ) (x : F) (b : List F) (p : Pulled F) → pull priority b ≡ Some p → priority p.frame < v → below v b ≡ suc (below v p.others)
        → (All P b → P p.frame × All P p.others) → (s : Bool) → leb (priority x) (priority p.frame) ≡ s → Behind v (x ∷ b)
    behind_ahead v x b p e l z q true k =
        let m = leb-true (priority x) (priority p.frame) k in
        let n : priority x < v = omega arith in
        ahead (record { frame = x; others = b }) (from_first priority x b p e m) n (below_yes v x b n) (λ r. r)
    behind_ahead v x b p e l z q false k =
        ahead (record { frame = p.frame; others = x ∷ p.others }) (from_later priority x b p e (leb-false (priority x) (priority p.frame) k)) l
        (omega (arith, z)) (λ r. ((q r.1).0, (r.0, (q r.1).1)))

    behind : (v : ℕ) (b : List F) → Behind v b
    behind v [] = bare refl refl
    behind v (x ∷ b) = go (behind v b)
      where
        go : Behind v b → Behind v (x ∷ b)
        go (bare e z) = behind_bare v x b e z (ltb (priority x) v) refl
        go (quiet p e l z) = behind_quiet v x b p e l z (ltb (priority x) v) refl (leb (priority x) (priority p.frame)) refl
        go (ahead p e l z q) = behind_ahead v x b p e l z q (leb (priority x) (priority p.frame)) refl

    -- Those to leave before the frame f, which has a before it and b behind it in the row: of equal or higher rank before it, of higher rank behind it.
    abbrev pub over : F → List F → List F → ℕ
    over f a b = up_to (priority f) a + below (priority f) b

    -- A take at a row in which f waits: it gives f, where none is to leave before it; else another, and then one fewer is.
    pub data Front (f : F) (a b : List F) : Type 0 where
      turn : pull priority (a ++ f ∷ b) ≡ Some (record { frame = f; others = a ++ b }) → over f a b ≡ 0 → Front f a b
      other : (m : F) (a' b' : List F) → pull priority (a ++ f ∷ b) ≡ Some (record { frame = m; others = a' ++ f ∷ b' }) → priority m ≤ priority f
          → over f a b ≡ suc (over f a' b') → (All P a → All P b → P m × (All P a' × All P b')) → Front f a b

    front_nil : (f : F) (b : List F) → Behind (priority f) b → Front f [] b
    front_nil f b (bare e z) = turn (from_nothing priority f b e) (omega (arith, z))
    front_nil f b (quiet p e l z) = turn (from_first priority f b p e l) (omega (arith, z))
    front_nil f b (ahead p e l z q) =
        other p.frame [] p.others (from_later priority f b p e l) (omega (arith, l)) (omega (arith, z)) (λ r s. ((q s).0, (tt, (q s).1)))

    front_turn : (f x : F) (a b : List F) → pull priority (a ++ f ∷ b) ≡ Some (record { frame = f; others = a ++ b }) → over f a b ≡ 0
        → (s : Bool) → leb (priority x) (priority f) ≡ s → Front f (x ∷ a) b
    front_turn f x a b e z true k =
        let l = leb-true (priority x) (priority f) k in
        other x a b (from_first priority x (a ++ f ∷ b) _ e l) l (omega (arith, z, up_to_yes (priority f) x a l)) (λ r s. (r.0, (r.1, s)))
    front_turn f x a b e z false k =
        let l = leb-false (priority x) (priority f) k in
        turn (from_later priority x (a ++ f ∷ b) _ e l) (omega (arith, z, up_to_no (priority f) x a l))

    front_other : (f x : F) (a b : List F) (m : F) (a' b' : List F) → pull priority (a ++ f ∷ b) ≡ Some (record { frame = m; others = a' ++ f ∷ b' })
        → priority m ≤ priority f → over f a b ≡ suc (over f a' b') → (All P a → All P b → P m × (All P a' × All P b'))
        → (s : Bool) → leb (priority x) (priority m) ≡ s → Front f (x ∷ a) b
    front_other f x a b m a' b' e h z q true k =
        let l = leb-true (priority x) (priority m) k in
        let n : priority x ≤ priority f = omega arith in
        other x a b (from_first priority x (a ++ f ∷ b) _ e l) n (omega (arith, up_to_yes (priority f) x a n)) (λ r s. (r.0, (r.1, s)))
    front_other f x a b m a' b' e h z q false k =
        other m (x ∷ a') b' (from_later priority x (a ++ f ∷ b) _ e (leb-false (priority x) (priority m) k)) h (omega (arith, z))
        (λ r s. let w = q r.1 s in (w.0, ((r.0, w.1.0), w.1.1)))

    pub front : (f : F) (a b : List F) → Front f a b
    front f [] b = front_nil f b (behind (priority f) b)
    front f (x ∷ a) b = go (front f a b)
      where
        go : Front f a b → Front f (x ∷ a) b
        go (turn e z) = front_turn f x a b e z (leb (priority x) (priority f)) refl
        go (other m a' b' e h z q) = front_other f x a b m a' b' e h z q (leb (priority x) (priority m)) refl
