-- Demand 3 for any product: its book moves as the law of a unit says (Unit.antt), port by port, so that law is read off the book, its calls and their answers.
-- Assumes nothing.
use mathlib.Core.Path.{◌≡◌, refl, sym, ap, ◌∙◌}
use mathlib.Core.Logic.{◌↔◌}
use mathlib.Core.List.{List, [], ◌∷◌, ◌++◌, map}
use Rattle.std.specs.Prelude.{Option, None, Some}
use Prim.Native.Nat.{ℕ, ◌<◌}
use native.Mathlib.Omega.{arith}
use lib.ListN.{length}
use Rattle.delivery.specs.Port.{Event, Join, Take, Ticket, Due, NotYet, ticket_of, waiting, frame_of}
use Rattle.delivery.specs.Port.{gives as gives_after}
use Rattle.delivery.specs.Calls.{after_calls, answers_of}
use Rattle.delivery.specs.Unit.{happens, row_at, Demand3}
use Rattle.delivery.specs.Unit.{Story as UnitStory, left_at as unit_left, stays_on as unit_stays}
use Rattle.delivery.specs.Product.{Product, Lawful, Fresh, Answered, book_after, happened, Came, Story, left_at, waits_on, Gave, frame_that_leaves, nothing_waiting, Obeys}
use Rattle.delivery.proofs.Calls.{answers_append, length_answers}
use Rattle.delivery.proofs.Unit.{model_row, demand3}
use Rattle.delivery.proofs.Came.{Found, found}
use Rattle.delivery.proofs.Once.{Grown, once_if, stays_if}

-- ---- the answer at a place of the list
heads : {A : Type 0} (ys zs cs ds : List A) (a b : A) → length ys ≡ length zs → ys ++ a ∷ cs ≡ zs ++ b ∷ ds → a ≡ b
heads [] [] cs ds a b l e = cc
heads [] (y ∷ zs) cs ds a b l e = absurd (omega arith)
heads (x ∷ ys) [] cs ds a b l e = absurd (omega arith)
heads (x ∷ ys) (y ∷ zs) cs ds a b l e =
    let t : ys ++ a ∷ cs ≡ zs ++ b ∷ ds = cc in
    heads ys zs cs ds a b (omega arith) t

module _ {M C X : Type 0} (next : M → C → M) (answer : M → C → X) where
  pub answered : {ks js : List C} {xs : List X} {k : C} {x : X} (m : M) → xs ≡ answers_of next answer m ks → Answered ks xs js k x
      → x ≡ answer (after_calls next m js) k
  answered {ks} {js} {xs} {k} {x} m e a =
      heads a.answers_before (answers_of next answer m js) a.answers_later (answers_of next answer (next (after_calls next m js) k) a.later) x
      (answer (after_calls next m js) k) (a.place ∙ sym (length_answers next answer m js))
      (sym a.answers ∙ e ∙ rw a.calls (answers_append next answer m js (k ∷ a.later)))

  -- the call k stands in a list after the calls js, and there stands its answer
  stands : (m : M) {ks : List C} {xs : List X} (js : List C) (k : C) (ls : List C) (x : X) → xs ≡ answers_of next answer m ks → ks ≡ js ++ k ∷ ls
      → answer (after_calls next m js) k ≡ x → Answered ks xs js k x
  stands m js k ls x said calls e = record {
    later = ls;
    answers_before = answers_of next answer m js;
    answers_later = answers_of next answer (next (after_calls next m js) k) ls;
    calls = calls;
    answers = said ∙ rw calls (answers_append next answer m js (k ∷ ls) ∙ rw e);
    place = length_answers next answer m js;
  }

module _ {F R M C X : Type 0} (P : Product F R M C X) (Fine : M → Type 0) (L : Lawful P Fine) (m : M) (fresh : Fresh P Fine m) where
  -- ---- the book after a list of calls
  rest_after_lem : (b : M) (js : List C) → P.rest (after_calls P.next b js) ≡ after_calls P.rest_next (P.rest b) js
  rest_after_lem b [] = refl
  rest_after_lem b (k ∷ js) = rest_after_lem (P.next b k) js ∙ rw (L.rest_moves b k)

  module _ (q : ℕ) (h : q < P.ports) where
    port_law : Demand3 P.priority P.size P.rest_next P.asks P.sends q (P.rest m)
    port_law = demand3 P.priority P.size P.rest_next P.asks P.sends q (P.rest m)

    row_after_lem : (js : List C) → P.row (book_after P m js) q ≡ row_at P.priority P.size P.rest_next P.asks P.sends q (P.rest m) [] js
    row_after_lem js =
        model_row P.priority P.size P.rest_next P.asks P.sends P.next Fine P.rest (λ b. P.row b q) q L.stays_fine
        (λ b k g. L.rest_moves b k) (λ b k g. L.row_moves b k q h g) m js fresh.fine
        ∙ rw (fresh.empty q h)

    grows : (js : List C) (k : C)
        → happened P m q (js ++ (k ∷ []))
        ≡ happened P m q js
        ++ happens P.size (P.asks (P.rest (book_after P m js)) k) q (P.row (book_after P m js) q) (P.sends (P.rest (book_after P m js)) k q)
    grows js k = rw (rest_after_lem m js, row_after_lem js) (port_law.grows js k)

    waits : (js : List C) → P.row (book_after P m js) q ≡ map (λ t. t.frame) (waiting P.priority (happened P m q js))
    waits js = row_after_lem js ∙ port_law.holds js

    -- what the book answers to a take
    take_answer_lem : (js : List C)
        → P.answer (book_after P m js) (P.take_on q) ≡ P.took (frame_of P.priority (gives_after P.priority (happened P m q js)))
    take_answer_lem js = L.take_told (book_after P m js) q h ∙ rw (row_after_lem js, port_law.answers js)

    came : (ks : List C) (before : List (Event F)) (f : F) (after : List (Event F)) → happened P m q ks ≡ before ++ Join f ∷ after → Came P m q ks before f
    came ks before f after e = from (found P.priority P.size P.rest_next P.asks P.sends q (P.rest m) [] ks before f after e)
      where
        from : Found P.priority P.size P.rest_next P.asks P.sends q (P.rest m) [] ks before f → Came P m q ks before f
        from u = record {
          js = u.js;
          k = u.k;
          later = u.later;
          earlier = u.earlier;
          calls = u.calls;
          sent = rw (rest_after_lem m u.js) u.sent;
          until = u.until;
        }

    -- ---- what a take gives
    gave_if : (js : List C) (x : X) (o : Option (Ticket F)) → gives_after P.priority (happened P m q js) ≡ o → x ≡ P.took (frame_of P.priority o)
        → Gave P m q js x
    gave_if js x None e a = nothing_waiting ((port_law.obeys.nothing (happened P m q js)).0 e) a
    gave_if js x (Some t) e a = go (port_law.obeys.exactly (happened P m q js) t e)
      where
        go : (before : List (Event F)) × (since : List (Event F)) × (happened P m q js ≡ before ++ Join t.frame ∷ since)
            × (t ≡ ticket_of P.priority before t.frame) × Due P.priority before t.frame since × NotYet P.priority before t.frame since
            → Gave P m q js x
        go u = frame_that_leaves u.0 u.1 t.frame (record { accepted = u.2; due = u.4; first = u.5; itself = e ∙ ap Some u.3 }) a

    no_frame_lem : (o : Option (Ticket F)) → frame_of P.priority o ≡ None → o ≡ None
    no_frame_lem None e = refl
    no_frame_lem (Some t) e = let z : ◌≡◌ {A = ℕ} 0 1 = cc in absurd (omega arith)

    module _ (ks : List C) (xs : List X) (said : xs ≡ answers_of P.next P.answer m ks) where
      taken : (js : List C) (x : X) → Answered ks xs js (P.take_on q) x → x ≡ P.took (frame_of P.priority (gives_after P.priority (happened P m q js)))
      taken js x a = answered P.next P.answer m said a ∙ take_answer_lem js

      gives : (js : List C) (x : X) → Answered ks xs js (P.take_on q) x → Gave P m q js x
      gives js x a = gave_if js x (gives_after P.priority (happened P m q js)) refl (taken js x a)

      nothing : (js : List C) (x : X) → Answered ks xs js (P.take_on q) x
          → (x ≡ P.took None) ↔ (waiting P.priority (happened P m q js) ≡ [])
      nothing js x a =
          let law = port_law.obeys.nothing (happened P m q js) in (
            λ e. law.0
                (no_frame_lem (gives_after P.priority (happened P m q js))
                (L.nothing_told_lem (frame_of P.priority (gives_after P.priority (happened P m q js))) (sym (taken js x a) ∙ e))),
            λ e. taken js x a ∙ rw (law.1 e),
          )

      -- ---- what becomes of a frame
      left_at_lem : (before : List (Event F)) (f : F) (after : List (Event F)) (js : List C) (k : C) (ls : List C) → ks ≡ js ++ k ∷ ls → k ≡ P.take_on q
          → (since rest : List (Event F)) → after ≡ since ++ Take ∷ rest → happened P m q js ≡ before ++ Join f ∷ since
          → Due P.priority before f since → NotYet P.priority before f since → Story P m q ks xs before f after
      left_at_lem before f after js k ls e t since rest w j d n =
          let own : gives_after P.priority (happened P m q js) ≡ Some (ticket_of P.priority before f) = rw j ((port_law.obeys.leaves before f since).1 (d, n)) in
          left_at js since rest w (record { accepted = j; due = d; first = n; itself = own })
          (stands P.next P.answer m js (P.take_on q) ls (P.took (Some f)) said (e ∙ rw t) (take_answer_lem js ∙ rw own))

      leaves : (before : List (Event F)) (f : F) (after : List (Event F)) → happened P m q ks ≡ before ++ Join f ∷ after → Story P m q ks xs before f after
      leaves before f after e = go (port_law.stories ks before f after e)
        where
          go : UnitStory P.priority P.size P.rest_next P.asks P.sends q (P.rest m) ks before f after → Story P m q ks xs before f after
          go (unit_left js k ls c a since rest w j d n g) =
              left_at_lem before f after js k ls c (L.asks_take (after_calls P.rest_next (P.rest m) js) k q a) since rest w j d n
          go (unit_stays n i) = waits_on n i

    -- what Once.antt needs
    grown : Grown P m q
    grown = record { grows = grows; asks_take = λ r k. L.asks_take r k q; take_asks = λ r. L.take_asks r q h }

  -- ---- the whole
  pub obeys : (ks : List C) (xs : List X) → xs ≡ answers_of P.next P.answer m ks → Obeys P m ks xs
  obeys ks xs said = record {
    grows = grows;
    waits = waits;
    came = λ q h. came q h ks;
    leaves = λ q h. leaves q h ks xs said;
    once = λ q h. once_if P m q (grown q h) ks xs;
    gives = λ q h. gives q h ks xs said;
    nothing = λ q h. nothing q h ks xs said;
    stays = λ q h. stays_if P m q (grown q h);
    law = port_law;
  }
