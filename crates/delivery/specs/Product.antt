-- Demand 3 for any product whose calls move a book: a bridge, a router. A product says what its book is, what a call does to it and what it answers; that its
-- functions follow the book is shown for one call (Calls.antt). `obeys` of proofs/Product.antt: then demand 3 holds of every list of calls.
-- In this file ports are counted from 0. Words in quotes are the customer's; those after RULES are of docs/RULES.md, "Delivery".
-- Assumes nothing.
use Rattle.std.specs.Prelude.{◌≡◌, ◌↔◌, ℕ, ◌<◌, length, Option, None, Some}
use mathlib.Core.List.{List, [], ◌∷◌, ◌++◌, map, Memᴰ}
use Rattle.delivery.specs.Row.{pull, given}
use Rattle.delivery.specs.Port.{Event, Join, Take, Ticket, Due, NotYet, ticket_of, waiting, gives}
use Rattle.delivery.specs.Calls.{after_calls}
use Rattle.delivery.specs.Unit.{row_next, happens, history, Demand3}

-- ---- a product
-- F its frames, M its book, R what the book keeps besides the rows and has all the say, C its calls by their arguments, X their answers. What the book
-- may keep beyond rest and rows is only looked at: nothing here reads it.
pub record Product (F R M C X : Type 0) : Type 0 where
  pub priority : F → ℕ
  -- how many frames wait at a port at most, and how many ports there are
  pub size : ℕ
  pub ports : ℕ
  pub rest : M → R
  pub row : M → ℕ → List F
  -- what a call does to the book and what it answers, by its arguments alone
  pub next : M → C → M
  pub answer : M → C → X
  -- read on the rest: what a call makes of it; the port of a take that isn't refused; the frames sent to port q, in order. A refused call has none of them
  pub rest_next : R → C → R
  pub asks : R → C → Option ℕ
  pub sends : R → C → ℕ → List F
  -- the take on port q, and what a take is answered that gave a frame, or nothing
  pub take_on : ℕ → C
  pub took : Option F → X

module _ {F R M C X : Type 0} (P : Product F R M C X) where
  -- What a product shows of its book. `Fine` is what the book keeps besides.
  pub record Lawful (Fine : M → Type 0) : Type 0 where
    pub stays_fine : (m : M) (k : C) → Fine m → Fine (P.next m k)
    pub rest_moves : (m : M) (k : C) → P.rest (P.next m k) ≡ P.rest_next (P.rest m) k
    pub row_moves : (m : M) (k : C) (q : ℕ) → q < P.ports → Fine m
        → P.row (P.next m k) q ≡ row_next P.priority P.size (P.asks (P.rest m) k) q (P.row m q) (P.sends (P.rest m) k q)
    -- who asks port q is the take on it, and it asks
    pub asks_take : (r : R) (k : C) (q : ℕ) → P.asks r k ≡ Some q → k ≡ P.take_on q
    pub take_asks : (r : R) (q : ℕ) → q < P.ports → P.asks r (P.take_on q) ≡ Some q
    -- a take is answered with what leaves the row, and "nothing waiting" is no frame's answer
    pub take_told : (m : M) (q : ℕ) → q < P.ports → P.answer m (P.take_on q) ≡ P.took (given (pull P.priority (P.row m q)))
    pub nothing_told_lem : (o : Option F) → P.took o ≡ P.took None → o ≡ None

  -- A book as power_on leaves it: every row is empty.
  pub record Fresh (Fine : M → Type 0) (m : M) : Type 0 where
    pub fine : Fine m
    pub empty : (q : ℕ) → q < P.ports → P.row m q ≡ []

-- ---- where an answer stands
-- In the list ks, answered by xs, the call k comes after the calls js, and its answer is x.
pub record Answered {C X : Type 0} (ks : List C) (xs : List X) (js : List C) (k : C) (x : X) : Type 0 where
  pub later : List C
  pub answers_before : List X
  pub answers_later : List X
  pub calls : ks ≡ js ++ k ∷ later
  pub answers : xs ≡ answers_before ++ x ∷ answers_later
  pub place : length answers_before ≡ length js

-- ---- the claim, from the book m on
module _ {F R M C X : Type 0} (P : Product F R M C X) (m : M) where
  -- RULES: "It is made of the calls' arguments alone, of no answer and nothing of the unit's record."
  abbrev pub book_after : List C → M
  book_after ks = after_calls P.next m ks

  -- Joins and takes at port q in a list of calls; field `grows` below says what one more call adds.
  abbrev pub happened : ℕ → List C → List (Event F)
  happened q ks = history P.priority P.size P.rest_next P.asks P.sends q (P.rest m) [] ks

  -- Where the frame f came from that was accepted for port q after `before`: the call k, made after the calls js, sent it there. `earlier` are the frames
  -- of that call that joined before it.
  pub record Came (q : ℕ) (ks : List C) (before : List (Event F)) (f : F) : Type 0 where
    pub js : List C
    pub k : C
    pub later : List C
    pub earlier : List F
    pub calls : ks ≡ js ++ k ∷ later
    pub sent : Memᴰ f (P.sends (P.rest (book_after js)) k q)
    pub until : before ≡ happened q js ++ map Join earlier

  -- The frame f, accepted for port q after `before`, leaves at the take that is made there after the calls js.
  pub record Leaves (q : ℕ) (js : List C) (before : List (Event F)) (f : F) (since : List (Event F)) : Type 0 where
    -- `since` is what happened at the port from its acceptance until this take
    pub accepted : happened q js ≡ before ++ Join f ∷ since
    -- this take's "number after its acceptance is 1 + A + B"
    pub due : Due P.priority before f since
    -- and it is "the first" such
    pub first : NotYet P.priority before f since
    -- the take removes this very frame, no equal one: tickets are told apart by their joining numbers
    pub itself : gives P.priority (happened q js) ≡ Some (ticket_of P.priority before f)

  -- What becomes of a frame f that was accepted for port q after `before`, if `after` is what happened there from then on: one of two stories.
  pub data Story (q : ℕ) (ks : List C) (xs : List X) (before : List (Event F)) (f : F) (after : List (Event F)) : Type 0 where
    -- it left at a call of the list, a take on that port that was answered with this frame, unchanged
    left_at : (js : List C) (since rest : List (Event F)) → after ≡ since ++ Take ∷ rest → Leaves q js before f since
        → Answered ks xs js (P.take_on q) (P.took (Some f)) → Story q ks xs before f after
    -- or "until so many takes are made it waits"
    waits_on : NotYet P.priority before f after → Memᴰ (ticket_of P.priority before f) (waiting P.priority (happened q ks))
        → Story q ks xs before f after

  -- What a take on port q, made after the calls js, is answered.
  pub data Gave (q : ℕ) (js : List C) (x : X) : Type 0 where
    frame_that_leaves : (before since : List (Event F)) (f : F) → Leaves q js before f since → x ≡ P.took (Some f) → Gave q js x
    nothing_waiting : waiting P.priority (happened q js) ≡ [] → x ≡ P.took None → Gave q js x

  -- The calls ks were made from the book m on and were answered xs.
  pub record Obeys (ks : List C) (xs : List X) : Type 0 where
    -- RULES: "Accepted for a port means that the frame joined its row, waiting that it is in the row." What one more call makes happen at
    -- port q (`happens`): a take that isn't refused is one take at its port and nothing elsewhere; of the frames that any other call sends there, those join
    -- that find room in the book's row. "Takes on that port alone are counted, refused ones not."
    pub grows : (q : ℕ) → q < P.ports → (js : List C) (k : C)
        → happened q (js ++ (k ∷ []))
        ≡ happened q js ++ happens P.size (P.asks (P.rest (book_after js)) k) q (P.row (book_after js) q) (P.sends (P.rest (book_after js)) k q)
    pub waits : (q : ℕ) → q < P.ports → (js : List C) → P.row (book_after js) q ≡ map (λ t. t.frame) (waiting P.priority (happened q js))
    -- "unchanged": what is accepted is what a call sent. Below, f leaves as it came.
    pub came : (q : ℕ) → q < P.ports → (before : List (Event F)) (f : F) (after : List (Event F)) → happened q ks ≡ before ++ Join f ∷ after
        → Came q ks before f
    -- "A frame accepted for a port, the unit's own too, leaves there once, unchanged, at the first take whose number after its acceptance is 1 + A + B.
    -- Until so many takes are made it waits."
    pub leaves : (q : ℕ) → q < P.ports → (before : List (Event F)) (f : F) (after : List (Event F)) → happened q ks ≡ before ++ Join f ∷ after
        → Story q ks xs before f after
    pub once : (q : ℕ) → q < P.ports → (js js' : List C) (x x' : X) → Answered ks xs js (P.take_on q) x → Answered ks xs js' (P.take_on q) x'
        → (before : List (Event F)) (f : F) (since since' : List (Event F)) → Leaves q js before f since → Leaves q js' before f since' → js ≡ js'
    -- "A take that isn't refused gives exactly the frame that leaves at it, or ‘nothing waiting’ exactly when no frame waits there."
    pub gives : (q : ℕ) → q < P.ports → (js : List C) (x : X) → Answered ks xs js (P.take_on q) x → Gave q js x
    pub nothing : (q : ℕ) → q < P.ports → (js : List C) (x : X) → Answered ks xs js (P.take_on q) x
        → (x ≡ P.took None) ↔ (waiting P.priority (happened q js) ≡ [])
    -- "No call but a take makes a frame leave": after any call but a take on port q those who waited there wait still, in their order; others may have
    -- joined behind them.
    pub stays : (q : ℕ) → q < P.ports → (js : List C) (k : C) → (k ≡ P.take_on q → ⊥)
        → (behind : List (Ticket F)) × (waiting P.priority (happened q (js ++ (k ∷ []))) ≡ waiting P.priority (happened q js) ++ behind)
    -- And the law of one port for every list of calls (Unit.antt).
    pub law : (q : ℕ) → q < P.ports → Demand3 P.priority P.size P.rest_next P.asks P.sends q (P.rest m)
