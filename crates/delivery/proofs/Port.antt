-- The law of one port holds of every history: a frame is followed from its acceptance on, and tickets are told apart by their numbers. Assumes nothing.
use mathlib.Core.Path.{◌≡◌, refl, sym, ◌∙◌, ap}
use mathlib.Core.Logic.{◌↔◌, ◌⊎◌, inl, inr}
use mathlib.Core.Bool.{Bool, true, false, cond}
use mathlib.Core.List.Memᴰ
use mathlib.Core.List.{List, [], ◌∷◌, ◌++◌, append_assoc, map, Memᴰ}
use Rattle.std.specs.Prelude.{Option, None, Some}
use Prim.Native.Nat.{ℕ, suc}
use native.Mathlib.Omega.{arith}
use native.Mathlib.Nat.{zero-add}
use lib.Dec.{leb}
use lib.ListN.{length}
use Rattle.delivery.specs.Row.{Pulled, pull_before, pull, given, kept, All}
use Rattle.delivery.specs.Port.{Event, Join, Take, Ticket, ticket, joined, row_after, A, Due, NotYet, ticket_priority, tickets_after, waiting, gives, ticket_of, frame_of, Fate, left, stays, PortLaw}
use Rattle.delivery.proofs.Take.{all_append, kept_all, given_all, none_given, up_to, Front, turn, other, front}
use Rattle.delivery.proofs.Follow.{tickets_append, all_tickets, Else, NotYetFrom, over_it, Status, here, gone, follow}

module _ {F : Type 0} (priority : F → ℕ) where
  -- ---- a row without its numbers
  abbrev bare : List (Ticket F) → List F
  bare row = map (λ t. t.frame) row

  abbrev bare_of : Option (Pulled (Ticket F)) → Option (Pulled F)
  bare_of None = None
  bare_of (Some p) = Some (record { frame = p.frame.frame; others = bare p.others })

  before_bare : (t : Ticket F) (row : List (Ticket F)) (o : Option (Pulled (Ticket F)))
      → pull_before priority t.frame (bare row) (bare_of o) ≡ bare_of (pull_before (ticket_priority priority) t row o)
  before_bare t row None = refl
  before_bare t row (Some p) = go (leb (ticket_priority priority t) (ticket_priority priority p.frame))
    where
      go : (b : Bool)
          → Some (cond b (record { frame = t.frame; others = bare row }) (record { frame = p.frame.frame; others = t.frame ∷ bare p.others }))
          ≡ bare_of (Some (cond b (record { frame = t; others = row }) (record { frame = p.frame; others = t ∷ p.others })))
      go true = refl
      go false = refl

  pull_bare : (row : List (Ticket F)) → pull priority (bare row) ≡ bare_of (pull (ticket_priority priority) row)
  pull_bare [] = refl
  pull_bare (t ∷ row) = rw (pull_bare row) (before_bare t row (pull (ticket_priority priority) row))

  kept_bare : (o : Option (Pulled (Ticket F))) → kept (bare_of o) ≡ bare (kept o)
  kept_bare None = refl
  kept_bare (Some p) = refl

  given_bare : (o : Option (Pulled (Ticket F))) → given (bare_of o) ≡ frame_of priority (given o)
  given_bare None = refl
  given_bare (Some p) = refl

  bare_append : (r s : List (Ticket F)) → bare (r ++ s) ≡ bare r ++ bare s
  bare_append [] s = refl
  bare_append (x ∷ r) s = rw (bare_append r s)

  row_bare : (k : ℕ) (r : List (Ticket F)) (h : List (Event F)) → bare (tickets_after priority k r h) ≡ row_after priority (bare r) h
  row_bare k r [] = refl
  row_bare k r (Join f ∷ h) = row_bare (suc k) (r ++ (ticket k f ∷ [])) h ∙ rw (bare_append r (ticket k f ∷ []))
  row_bare k r (Take ∷ h) = row_bare k (kept (pull (ticket_priority priority) r)) h ∙ rw (pull_bare r, kept_bare (pull (ticket_priority priority) r))

  up_to_bare : (v : ℕ) (r : List (Ticket F)) → up_to (ticket_priority priority) v r ≡ up_to priority v (bare r)
  up_to_bare v [] = refl
  up_to_bare v (x ∷ r) = rw (up_to_bare v r)

  -- ---- a frame from its acceptance on
  -- No ticket in the row has a number that is still to come.
  older : (before : List (Event F)) → All (λ t. t.number ≡ length (joined before) → ⊥) (waiting priority before)
  older before = all_tickets priority (λ t. t.number ≡ length (joined before) → ⊥) 0 [] before tt (λ i f a b e. omega arith)

  row_after_lem : (before : List (Event F)) (f : F) (s : List (Event F))
      → waiting priority (before ++ Join f ∷ s)
      ≡ tickets_after priority (suc (length (joined before))) (waiting priority before ++ (ticket_of priority before f ∷ [])) s
  row_after_lem before f s = tickets_append priority 0 [] before (Join f ∷ s) ∙ rw (zero-add (length (joined before)))

  abbrev StatusOf : List (Event F) → F → List (Event F) → Type 0
  StatusOf before f s =
      Status priority (length (joined before)) f (A priority before f) (suc (length (joined before)))
      (waiting priority before ++ (ticket_of priority before f ∷ [])) s

  status : (before : List (Event F)) (f : F) (s : List (Event F)) → StatusOf before f s
  status before f s =
      let e = up_to_bare (priority f) (waiting priority before) in
      let z : up_to priority (priority f) (bare (waiting priority before)) ≡ A priority before f = rw (row_bare 0 [] before) in
      follow priority (length (joined before)) f s (A priority before f) (suc (length (joined before))) (waiting priority before) []
      (omega arith) (omega arith) (older before) tt

  not_yet : (before : List (Event F)) (f : F) (s : List (Event F)) → NotYetFrom priority (length (joined before)) f (A priority before f) s → NotYet priority before f s
  not_yet before f s h p q e d = h p q e (omega arith)

  -- A ticket is not among others.
  among : (t : Ticket F) (r : List (Ticket F)) → All (λ u. u.number ≡ t.number → ⊥) r → Memᴰ t r → ⊥
  among t [] w m = Memᴰ.not-nil m
  among t (x ∷ r) w m = go (λ k. among t r w.1 k) (Memᴰ.cases_cons m)
    where
      go : (Memᴰ t r → ⊥) → (t ≡ x) ⊎ Memᴰ t r → ⊥
      go ih (inl e) = w.0 (rw e)
      go ih (inr k) = ih k

  -- ---- the take that is made while it waits
  module _ (before : List (Event F)) (f : F) (a b : List (Ticket F)) where
    abbrev Other : Ticket F → Type 0
    Other = Else priority (length (joined before)) f

    abbrev FrontOf : Type 0
    FrontOf = Front (ticket_priority priority) Other (ticket_of priority before f) a b

    turn_comes : over_it priority (length (joined before)) f a b ≡ 0 → FrontOf
        → given (pull (ticket_priority priority) (a ++ ticket_of priority before f ∷ b)) ≡ Some (ticket_of priority before f)
    turn_comes z (turn e o) = rw e
    turn_comes z (other m a' b' e h o w) = absurd (omega arith)

    turn_came : All Other a → All Other b → given (pull (ticket_priority priority) (a ++ ticket_of priority before f ∷ b)) ≡ Some (ticket_of priority before f)
        → FrontOf → over_it priority (length (joined before)) f a b ≡ 0
    turn_came x y g (turn e o) = o
    turn_came x y g (other m a' b' e h o w) =
        let z : given (pull (ticket_priority priority) (a ++ ticket_of priority before f ∷ b)) ≡ Some m = rw e in
        let v : m ≡ ticket_of priority before f = cc in
        absurd ((w x y).0 (rw v))

  -- ---- the fields of the law
  module _ (before : List (Event F)) (f : F) (s : List (Event F)) where
    -- `leaves` and `waits`
    abbrev Both : Type 0
    Both = ((gives priority (before ++ Join f ∷ s) ≡ Some (ticket_of priority before f)) ↔ (Due priority before f s × NotYet priority before f s))
        × (Memᴰ (ticket_of priority before f) (waiting priority (before ++ Join f ∷ s)) ↔ NotYet priority before f s)

    both : Both
    both = go (status before f s)
      where
        go : StatusOf before f s → Both
        go (here a b e m x y t) =
            let r : waiting priority (before ++ Join f ∷ s) ≡ a ++ ticket_of priority before f ∷ b = row_after_lem before f s ∙ e in
            let j = front (ticket_priority priority) (Other before f a b) (ticket_of priority before f) a b in
            let n : NotYet priority before f s = not_yet before f s t in (
              (
                λ k. let z = turn_came before f a b x y (rw r at k) j in (omega arith, n),
                λ k. rw r (turn_comes before f a b (omega (arith, k.0)) j),
              ),
              (λ k. n, λ k. rw r (Memᴰ.append_right a (Memᴰ.head refl))),
            )
        go (gone p q e d t w) =
            let n : NotYet priority before f s → ⊥ = λ k. k p q e (omega arith) in
            let v : All (Else priority (length (joined before)) f) (waiting priority (before ++ Join f ∷ s)) = rw (row_after_lem before f s) w in (
              (
                λ k. absurd (given_all (ticket_priority priority) (Else priority (length (joined before)) f) (waiting priority (before ++ Join f ∷ s)) v (ticket_of priority before f) k refl),
                λ k. absurd (n k.1),
              ),
              (λ k. absurd (among (ticket_of priority before f) (waiting priority (before ++ Join f ∷ s)) v k), λ k. absurd (n k)),
            )

  fate : (before : List (Event F)) (f : F) (s : List (Event F)) → Fate priority before f s
  fate before f s = go (status before f s)
    where
      go : StatusOf before f s → Fate priority before f s
      go (here a b e m x y t) = let n : NotYet priority before f s = not_yet before f s t in stays n ((both before f s).1.1 n)
      go (gone p q e d t w) =
          let n : NotYet priority before f p = not_yet before f p t in
          let o : Due priority before f p = omega arith in
          left p q e o n ((both before f p).0.1 (o, n))

  -- Two takes of a history are the same, or one is earlier.
  data Apart (p p' : List (Event F)) : Type 0 where
    same : p ≡ p' → Apart p p'
    earlier : (x : List (Event F)) → p' ≡ p ++ Take ∷ x → Apart p p'
    later : (x : List (Event F)) → p ≡ p' ++ Take ∷ x → Apart p p'

  apart_cons : (e e' : Event F) (p p' : List (Event F)) → e ≡ e' → Apart p p' → Apart (e ∷ p) (e' ∷ p')
  apart_cons e e' p p' w (same h) = same (rw (w, h))
  apart_cons e e' p p' w (earlier x h) = earlier x (rw (w, h))
  apart_cons e e' p p' w (later x h) = later x (rw (w, h))

  apart : (p q p' q' : List (Event F)) → p ++ Take ∷ q ≡ p' ++ Take ∷ q' → Apart p p'
  apart [] q [] q' h = same refl
  apart [] q (e' ∷ p') q' h = let w : e' ≡ Take = cc in earlier p' (rw w)
  apart (e ∷ p) q [] q' h = let w : e ≡ Take = cc in later p (rw w)
  apart (e ∷ p) q (e' ∷ p') q' h =
      let w : e ≡ e' = cc in
      let v : p ++ Take ∷ q ≡ p' ++ Take ∷ q' = cc in
      apart_cons e e' p p' w (apart p q p' q' v)

  once : (before : List (Event F)) (f : F) (after p q p' q' : List (Event F)) → after ≡ p ++ Take ∷ q → after ≡ p' ++ Take ∷ q'
      → gives priority (before ++ Join f ∷ p) ≡ Some (ticket_of priority before f)
      → gives priority (before ++ Join f ∷ p') ≡ Some (ticket_of priority before f) → p ≡ p'
  once before f after p q p' q' e e' g g' = go (apart p q p' q' (sym e ∙ e'))
    where
      go : Apart p p' → p ≡ p'
      go (same h) = h
      go (earlier x h) = absurd (((both before f p').0.0 g').1 p x h ((both before f p).0.0 g).0)
      go (later x h) = absurd (((both before f p).0.0 g).1 p' x h ((both before f p').0.0 g').0)

  -- Every ticket in the row has joined in the history.
  abbrev Joined : List (Event F) → Ticket F → Type 0
  Joined h t = (before : List (Event F)) × (since : List (Event F)) × (h ≡ before ++ Join t.frame ∷ since) × (t ≡ ticket_of priority before t.frame)

  joins_snoc : (h : List (Event F)) (f : F) → length (joined (h ++ (Join f ∷ []))) ≡ suc (length (joined h))
  joins_snoc [] f = refl
  joins_snoc (Join g ∷ h) f = rw (joins_snoc h f)
  joins_snoc (Take ∷ h) f = joins_snoc h f

  takes_snoc : (h : List (Event F)) → length (joined (h ++ (Take ∷ []))) ≡ length (joined h)
  takes_snoc [] = refl
  takes_snoc (Join g ∷ h) = rw (takes_snoc h)
  takes_snoc (Take ∷ h) = takes_snoc h

  all_joined : (h done todo : List (Event F)) (k : ℕ) (r : List (Ticket F)) → h ≡ done ++ todo → length (joined done) ≡ k → All (Joined h) r
      → All (Joined h) (tickets_after priority k r todo)
  all_joined h done [] k r e c w = w
  all_joined h done (Join f ∷ todo) k r e c w =
      let u : ticket k f ≡ ticket_of priority done f = rw c in
      all_joined h (done ++ (Join f ∷ [])) todo (suc k) (r ++ (ticket k f ∷ [])) (e ∙ sym (append_assoc done (Join f ∷ []) todo))
      (joins_snoc done f ∙ ap suc c) (all_append (Joined h) r (ticket k f ∷ []) w ((done, todo, e, u), tt))
  all_joined h done (Take ∷ todo) k r e c w =
      all_joined h (done ++ (Take ∷ [])) todo k (kept (pull (ticket_priority priority) r)) (e ∙ sym (append_assoc done (Take ∷ []) todo))
      (takes_snoc done ∙ c) (kept_all (ticket_priority priority) (Joined h) r w)

  exactly : (h : List (Event F)) (t : Ticket F) → gives priority h ≡ Some t
      → (before : List (Event F)) × (since : List (Event F)) × (h ≡ before ++ Join t.frame ∷ since) × (t ≡ ticket_of priority before t.frame)
      × Due priority before t.frame since × NotYet priority before t.frame since
  exactly h t g = go (given_all (ticket_priority priority) (Joined h) (waiting priority h) (all_joined h [] h 0 [] refl refl tt) t g)
    where
      go : Joined h t
          → (before : List (Event F)) × (since : List (Event F)) × (h ≡ before ++ Join t.frame ∷ since) × (t ≡ ticket_of priority before t.frame)
          × Due priority before t.frame since × NotYet priority before t.frame since
      go j =
          let w : gives priority (j.0 ++ Join t.frame ∷ j.1) ≡ Some (ticket_of priority j.0 t.frame) = rw (← j.2, ← j.3) g in
          let d = (both j.0 t.frame j.1).0.0 w in
          (j.0, j.1, j.2, j.3, d.0, d.1)

  pub port_law : PortLaw priority
  port_law = record {
    leaves = λ before f since. (both before f since).0;
    waits = λ before f since. (both before f since).1;
    fate = fate;
    once = once;
    exactly = exactly;
    nothing = λ h. none_given (ticket_priority priority) (waiting priority h);
    frames = λ h. row_bare 0 [] h;
    answer = λ h. rw (← (row_bare 0 [] h), pull_bare (waiting priority h)) (given_bare (pull (ticket_priority priority) (waiting priority h)));
  }
