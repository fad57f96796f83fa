-- A waiting frame is followed through the events: the takes made and those to leave before it add up to A + B, until its turn. Assumes nothing.
use mathlib.Core.Path.{◌≡◌, refl}
use mathlib.Core.Bool.{cond}
use mathlib.Core.List.{List, [], ◌∷◌, ◌++◌, append_assoc}
use Prim.Native.Nat.{ℕ, suc, ◌+◌, ◌≤◌, ◌<◌}
use native.Mathlib.Omega.{arith}
use lib.Dec.{ltb}
use lib.ListN.{length}
use Rattle.delivery.specs.Row.{pull, kept, All}
use Rattle.delivery.specs.Port.{Event, Join, Take, Ticket, ticket, takes, joined, B, ticket_priority, tickets_after}
use Rattle.delivery.proofs.Take.{all_append, kept_all, below, over, Front, turn, other, front}

module _ {F : Type 0} (priority : F → ℕ) where
  pub tickets_append : (k : ℕ) (row : List (Ticket F)) (h j : List (Event F))
      → tickets_after priority k row (h ++ j) ≡ tickets_after priority (k + length (joined h)) (tickets_after priority k row h) j
  tickets_append k row [] j = let e : k + 0 ≡ k = omega arith in rw e
  tickets_append k row (Join f ∷ h) j =
      let e : k + suc (length (joined h)) ≡ suc k + length (joined h) = omega arith in
      rw e (tickets_append (suc k) (row ++ (ticket k f ∷ [])) h j)
  tickets_append k row (Take ∷ h) j = tickets_append k (kept (pull (ticket_priority priority) row)) h j

  -- Who is in the row was there, or has joined.
  pub all_tickets : (Q : Ticket F → Type 0) (k : ℕ) (row : List (Ticket F)) (h : List (Event F)) → All Q row
      → ((i : ℕ) (f : F) → k ≤ i → i < k + length (joined h) → Q (ticket i f)) → All Q (tickets_after priority k row h)
  all_tickets Q k row [] w n = w
  all_tickets Q k row (Join f ∷ h) w n =
      all_tickets Q (suc k) (row ++ (ticket k f ∷ [])) h (all_append Q row (ticket k f ∷ []) w (n k f (omega arith) (omega arith), tt))
      (λ i g a b. n i g (omega arith) (omega arith))
  all_tickets Q k row (Take ∷ h) w n = all_tickets Q k (kept (pull (ticket_priority priority) row)) h (kept_all (ticket_priority priority) Q row w) n

  below_snoc : (v : ℕ) (b : List (Ticket F)) (x : Ticket F)
      → below (ticket_priority priority) v (b ++ (x ∷ [])) ≡ below (ticket_priority priority) v b + cond (ltb (ticket_priority priority x) v) 1 0
  below_snoc v [] x = omega arith
  below_snoc v (y ∷ b) x = omega (arith, below_snoc v b x)

-- The frame f with the joining number n.
module _ {F : Type 0} (priority : F → ℕ) (n : ℕ) (f : F) where
  -- Another ticket.
  abbrev pub Else : Ticket F → Type 0
  Else t = t.number ≡ n → ⊥

  -- A take made after p is the one at which it leaves, where c are to leave before it now.
  abbrev pub DueFrom : ℕ → List (Event F) → Type 0
  DueFrom c p = takes p ≡ c + B priority f p

  abbrev pub NotYetFrom : ℕ → List (Event F) → Type 0
  NotYetFrom c s = (p q : List (Event F)) → s ≡ p ++ Take ∷ q → ¬ DueFrom c p

  abbrev pub over_it : List (Ticket F) → List (Ticket F) → ℕ
  over_it a b = over (ticket_priority priority) Else (ticket n f) a b

  -- After the events s: it waits, and the counts add up; or it left at a take among them.
  pub data Status (c k : ℕ) (row : List (Ticket F)) (s : List (Event F)) : Type 0 where
    here : (a b : List (Ticket F)) → tickets_after priority k row s ≡ a ++ ticket n f ∷ b → takes s + over_it a b ≡ c + B priority f s
        → All Else a → All Else b → NotYetFrom c s → Status c k row s
    gone : (p q : List (Event F)) → s ≡ p ++ Take ∷ q → DueFrom c p → NotYetFrom c p → All Else (tickets_after priority k row s) → Status c k row s

  -- The counts go on with the events.
  not_nil : (c : ℕ) → NotYetFrom c []
  not_nil c [] q e = let z : ◌≡◌ {A = ℕ} 0 1 = cc in absurd (omega arith)
  not_nil c (x ∷ p) q e = let z : ◌≡◌ {A = ℕ} 0 1 = cc in absurd (omega arith)

  not_join : (c : ℕ) (g : F) (s : List (Event F)) → NotYetFrom (c + cond (ltb (priority g) (priority f)) 1 0) s → NotYetFrom c (Join g ∷ s)
  not_join c g s h [] q e = let z : ◌≡◌ {A = ℕ} 0 1 = cc in absurd (omega arith)
  not_join c g s h (Join y ∷ p) q e = λ d.
      let u : g ≡ y = cc in
      let v : s ≡ p ++ Take ∷ q = cc in
      let w : ◌≡◌ {A = ℕ} (cond (ltb (priority g) (priority f)) 1 0) (cond (ltb (priority y) (priority f)) 1 0) = rw u in
      h p q v (omega arith)
  not_join c g s h (Take ∷ p) q e = let z : ◌≡◌ {A = ℕ} 0 1 = cc in absurd (omega arith)

  not_take : (c : ℕ) (s : List (Event F)) → NotYetFrom c s → NotYetFrom (suc c) (Take ∷ s)
  not_take c s h [] q e = λ d. omega arith
  not_take c s h (Join y ∷ p) q e = let z : ◌≡◌ {A = ℕ} 0 1 = cc in absurd (omega arith)
  not_take c s h (Take ∷ p) q e = λ d. let v : s ≡ p ++ Take ∷ q = cc in h p q v (omega arith)

  -- The same frame, one event later.
  after_join : (c k : ℕ) (g : F) (row : List (Ticket F)) (s : List (Event F))
      → Status (c + cond (ltb (priority g) (priority f)) 1 0) (suc k) (row ++ (ticket k g ∷ [])) s → Status c k row (Join g ∷ s)
  after_join c k g row s (here a b e m x y t) = here a b e (omega (arith, m)) x y (not_join c g s t)
  after_join c k g row s (gone p q e d t w) = gone (Join g ∷ p) q (rw e) (omega (arith, d)) (not_join c g p t) w

  after_take : (c k : ℕ) (row : List (Ticket F)) (s : List (Event F)) → Status c k (kept (pull (ticket_priority priority) row)) s → Status (suc c) k row (Take ∷ s)
  after_take c k row s (here a b e m x y t) = here a b e (omega (arith, m)) x y (not_take c s t)
  after_take c k row s (gone p q e d t w) = gone (Take ∷ p) q (rw e) (omega (arith, d)) (not_take c p t) w

  pub follow : (s : List (Event F)) (c k : ℕ) (a b : List (Ticket F)) → n < k → over_it a b ≡ c → All Else a → All Else b
      → Status c k (a ++ ticket n f ∷ b) s
  follow [] c k a b l z x y = here a b refl (omega arith) x y (not_nil c)
  follow (Join g ∷ s) c k a b l z x y =
      let u = below_snoc priority (priority f) b (ticket k g) in
      let w : Status (c + cond (ltb (priority g) (priority f)) 1 0) (suc k) (a ++ ticket n f ∷ (b ++ (ticket k g ∷ []))) s =
      follow s (c + cond (ltb (priority g) (priority f)) 1 0) (suc k) a (b ++ (ticket k g ∷ [])) (omega arith) (omega (arith, u)) x
      (all_append Else b (ticket k g ∷ []) y ((λ e. omega arith), tt)) in
      after_join c k g (a ++ ticket n f ∷ b) s (rw (append_assoc a (ticket n f ∷ b) (ticket k g ∷ [])) w)
  follow (Take ∷ s) c k a b l z x y = go (λ c' a' b' e p q. follow s c' k a' b' l e p q) (front (ticket_priority priority) Else (ticket n f) a b)
    where
      go : ((c' : ℕ) (a' b' : List (Ticket F)) → over_it a' b' ≡ c' → All Else a' → All Else b' → Status c' k (a' ++ ticket n f ∷ b') s)
          → Front (ticket_priority priority) Else (ticket n f) a b → Status c k (a ++ ticket n f ∷ b) (Take ∷ s)
      go ih (turn e o) = gone [] s refl (omega arith) (not_nil c)
          (rw e (all_tickets priority Else k (a ++ b) s (all_append Else a b x y) (λ i g p q r. omega arith)))
      go ih (other m a' b' e h o w) =
          let u = w x y in
          let j : Status (over_it a' b') k (a' ++ ticket n f ∷ b') s = ih (over_it a' b') a' b' refl u.1.0 u.1.1 in
          let v : Status (suc (over_it a' b')) k (a ++ ticket n f ∷ b) (Take ∷ s) = after_take (over_it a' b') k (a ++ ticket n f ∷ b) s (rw e j) in
          let r : suc (over_it a' b') ≡ c = omega arith in
          rw r at v
