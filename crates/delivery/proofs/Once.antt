-- A frame leaves once, and only at a take. Assumes nothing.
use mathlib.Core.Path.{◌≡◌, refl, sym, ap, ◌∙◌}
use mathlib.Core.List.{List, [], ◌∷◌, ◌++◌, map, append-nil, append_assoc, append_cancel_left}
use Rattle.std.specs.Prelude.{Option, None, Some}
use Prim.Native.Nat.{ℕ, suc}
use native.Mathlib.Nat.{zero-add}
use borrow.Author.Tests.{eq-eqb, ne_eqb}
use lib.ListN.{length}
use Rattle.delivery.specs.Port.{Event, Join, Take, Ticket, ticket, joined, tickets_after, waiting}
use Rattle.delivery.specs.Unit.{accepted, happens}
use Rattle.delivery.specs.Product.{Product, Answered, book_after, happened, Leaves}
use Rattle.delivery.proofs.Follow.{tickets_append}

-- Two places of a list are the same, or one comes before the other.
data Places {A : Type 0} (a : A) (js js' : List A) : Type 0 where
  same : js ≡ js' → Places a js js'
  earlier : (x : List A) → js' ≡ js ++ a ∷ x → Places a js js'
  later : (x : List A) → js ≡ js' ++ a ∷ x → Places a js js'

places_cons : {A : Type 0} (a b b' : A) (js js' : List A) → b ≡ b' → Places a js js' → Places a (b ∷ js) (b' ∷ js')
places_cons a b b' js js' w (same h) = same (rw (w, h))
places_cons a b b' js js' w (earlier x h) = earlier x (rw (w, h))
places_cons a b b' js js' w (later x h) = later x (rw (w, h))

places : {A : Type 0} (a : A) (js ls js' ls' : List A) → js ++ a ∷ ls ≡ js' ++ a ∷ ls' → Places a js js'
places a [] ls [] ls' h = same refl
places a [] ls (b' ∷ js') ls' h = let w : b' ≡ a = cc in earlier js' (rw w)
places a (b ∷ js) ls [] ls' h = let w : b ≡ a = cc in later js (rw w)
places a (b ∷ js) ls (b' ∷ js') ls' h =
    let w : b ≡ b' = cc in
    let v : js ++ a ∷ ls ≡ js' ++ a ∷ ls' = cc in
    places_cons a b b' js js' w (places a js ls js' ls' v)

same_tail : {F : Type 0} (before : List (Event F)) (f : F) (s t : List (Event F)) → before ++ Join f ∷ s ≡ before ++ Join f ∷ t → s ≡ t
same_tail before f s t e = let c : Join f ∷ s ≡ Join f ∷ t = append_cancel_left before (Join f ∷ s) (Join f ∷ t) e in cc

-- Frames that join wait behind those who wait.
module _ {F : Type 0} (priority : F → ℕ) where
  joins_wait : (n : ℕ) (row : List (Ticket F)) (fs : List F) → (behind : List (Ticket F)) × (tickets_after priority n row (map Join fs) ≡ row ++ behind)
  joins_wait n row [] = ([], sym (append-nil row))
  joins_wait n row (f ∷ fs) = go (joins_wait (suc n) (row ++ (ticket n f ∷ [])) fs)
    where
      go : (behind : List (Ticket F)) × (tickets_after priority (suc n) (row ++ (ticket n f ∷ [])) (map Join fs) ≡ (row ++ (ticket n f ∷ [])) ++ behind)
          → (behind : List (Ticket F)) × (tickets_after priority (suc n) (row ++ (ticket n f ∷ [])) (map Join fs) ≡ row ++ behind)
      go u = (ticket n f ∷ u.0, u.1 ∙ append_assoc row (ticket n f ∷ []) u.0)

module _ {F R M C X : Type 0} (P : Product F R M C X) (m : M) (q : ℕ) where
  -- what a call makes happen at port q, after the calls js
  abbrev adds : List C → C → List (Event F)
  adds js k = happens P.size (P.asks (P.rest (book_after P m js)) k) q (P.row (book_after P m js) q) (P.sends (P.rest (book_after P m js)) k q)

  -- what is read off a lawful product here
  pub record Grown : Type 0 where
    pub grows : (js : List C) (k : C) → happened P m q (js ++ (k ∷ [])) ≡ happened P m q js ++ adds js k
    pub asks_take : (r : R) (k : C) → P.asks r k ≡ Some q → k ≡ P.take_on q
    pub take_asks : (r : R) → P.asks r (P.take_on q) ≡ Some q

  module _ (G : Grown) where
    -- ---- once
    -- What happened stays happened.
    past : (js ls : List C) → (more : List (Event F)) × (happened P m q (js ++ ls) ≡ happened P m q js ++ more)
    past js [] = ([], rw (append-nil js) (sym (append-nil (happened P m q js))))
    past js (k ∷ ls) = go (past (js ++ (k ∷ [])) ls)
      where
        go : (more : List (Event F)) × (happened P m q ((js ++ (k ∷ [])) ++ ls) ≡ happened P m q (js ++ (k ∷ [])) ++ more)
            → (more : List (Event F)) × (happened P m q (js ++ k ∷ ls) ≡ happened P m q js ++ more)
        go u = (adds js k ++ u.0, rw (← (append_assoc js (k ∷ []) ls)) (u.1 ∙ rw (G.grows js k) (append_assoc (happened P m q js) (adds js k) u.0)))

    -- A take is one take there.
    took : (js : List C) → happened P m q (js ++ (P.take_on q ∷ [])) ≡ happened P m q js ++ (Take ∷ [])
    took js = G.grows js (P.take_on q) ∙ rw (G.take_asks (P.rest (book_after P m js)), eq-eqb q q refl)

    -- At a later take it is no longer the first that is due.
    not_again : (js ls : List C) (before : List (Event F)) (f : F) (since since' : List (Event F)) → Leaves P m q js before f since
        → Leaves P m q (js ++ P.take_on q ∷ ls) before f since' → ⊥
    not_again js ls before f since since' l l' = go (past (js ++ (P.take_on q ∷ [])) ls)
      where
        go : (more : List (Event F)) × (happened P m q ((js ++ (P.take_on q ∷ [])) ++ ls) ≡ happened P m q (js ++ (P.take_on q ∷ [])) ++ more) → ⊥
        go u =
            l'.first since u.0
            (same_tail before f since' (since ++ Take ∷ u.0)
            (sym l'.accepted ∙ rw (← (append_assoc js (P.take_on q ∷ []) ls)) (u.1 ∙ rw (took js, l.accepted) (simp append_assoc))))
            l.due

    pub once_if : (ks : List C) (xs : List X) (js js' : List C) (x x' : X) → Answered ks xs js (P.take_on q) x → Answered ks xs js' (P.take_on q) x'
        → (before : List (Event F)) (f : F) (since since' : List (Event F)) → Leaves P m q js before f since → Leaves P m q js' before f since' → js ≡ js'
    once_if ks xs js js' x x' a a' before f since since' l l' = go (places (P.take_on q) js a.later js' a'.later (sym a.calls ∙ a'.calls))
      where
        go : Places (P.take_on q) js js' → js ≡ js'
        go (same e) = e
        go (earlier ls e) = absurd (not_again js ls before f since since' l (rw e at l'))
        go (later ls e) = absurd (not_again js' ls before f since' since l' (rw e at l))

    -- ---- only at a take
    joins_only : (js : List C) (k : C) (o : Option ℕ) → (o ≡ Some q → ⊥)
        → (behind : List (Ticket F))
        × (tickets_after P.priority (length (joined (happened P m q js))) (waiting P.priority (happened P m q js))
        (happens P.size o q (P.row (book_after P m js) q) (P.sends (P.rest (book_after P m js)) k q))
        ≡ waiting P.priority (happened P m q js) ++ behind)
    joins_only js k None n =
        joins_wait P.priority (length (joined (happened P m q js))) (waiting P.priority (happened P m q js))
        (accepted P.size (P.row (book_after P m js) q) (P.sends (P.rest (book_after P m js)) k q))
    joins_only js k (Some p) n = ([], rw (ne_eqb p q (λ w. n (ap Some w))) (sym (append-nil (waiting P.priority (happened P m q js)))))

    pub stays_if : (js : List C) (k : C) → (k ≡ P.take_on q → ⊥)
        → (behind : List (Ticket F)) × (waiting P.priority (happened P m q (js ++ (k ∷ []))) ≡ waiting P.priority (happened P m q js) ++ behind)
    stays_if js k n =
        rw (
          G.grows js k,
          tickets_append P.priority 0 [] (happened P m q js) (adds js k),
          zero-add (length (joined (happened P m q js))),
        )
        (joins_only js k (P.asks (P.rest (book_after P m js)) k) (λ w. n (G.asks_take (P.rest (book_after P m js)) k w)))
