-- Demand 3 from a port to a unit. What the rules keep besides the rows is a state `S` (pairs, address table, claim state, NAME ..) that no row has a say in.
-- A unit is given by what its calls `C` do, read on that state:
--     next    what a call does to the state; a refused call, nothing
--     asks    some q: a take on port q that isn't refused; none: any other call, a refused take too
--     sends   the frames that a call sends to port q, in order (rules 1 and 2, then the unit's own); none for a refused call, a take, a message, Quiet
--     size    how many frames wait at a port at most (rule 3)
-- The quoted words are the customer's. `demand3` of proofs/Unit.antt proves `Demand3` for every such unit, port and state at power-on.
use Rattle.std.specs.Prelude.{◌≡◌, cond, ℕ, eqb, Option, None, Some}
use mathlib.Core.List.{List, [], ◌∷◌, ◌++◌, map, Memᴰ}
use Rattle.delivery.specs.Row.{room, join, pull, given, kept}
use Rattle.delivery.specs.Calls.{after_calls}
use Rattle.delivery.specs.Port.{Event, Join, Take, Due, NotYet, ticket_of, waiting, gives, frame_of, PortLaw}

-- The row after frames were sent to it, one after the other.
abbrev pub join_all : {F : Type 0} → ℕ → List F → List F → List F
join_all size row [] = row
join_all size row (f ∷ fs) = join_all size (join size row f) fs

-- Of the frames sent to a row, the accepted.
abbrev pub accepted : {F : Type 0} → ℕ → List F → List F → List F
accepted size row [] = []
accepted size row (f ∷ fs) = cond (room size row) (f ∷ []) [] ++ accepted size (join size row f) fs

-- The row of port q after a call, by what it asks and what it sends there.
abbrev pub row_next : {F : Type 0} → (F → ℕ) → ℕ → Option ℕ → ℕ → List F → List F → List F
row_next priority size None q row sent = join_all size row sent
row_next priority size (Some p) q row sent = cond (eqb p q) (kept (pull priority row)) row

-- What such a call makes happen at port q.
abbrev pub happens : {F : Type 0} → ℕ → Option ℕ → ℕ → List F → List F → List (Event F)
happens size None q row sent = map Join (accepted size row sent)
happens size (Some p) q row sent = cond (eqb p q) (Take ∷ []) []

module _ {F S C : Type 0} (priority : F → ℕ) (size : ℕ) (next : S → C → S) (asks : S → C → Option ℕ) (sends : S → C → ℕ → List F) where
  -- The row of port q after a call, and after a list of calls.
  abbrev pub row_step : ℕ → S → List F → C → List F
  row_step q s row k = row_next priority size (asks s k) q row (sends s k q)

  abbrev pub row_at : ℕ → S → List F → List C → List F
  row_at q s row [] = row
  row_at q s row (k ∷ ks) = row_at q (next s k) (row_step q s row k) ks

  -- What a call, and a list of calls, makes happen at port q.
  abbrev pub events : ℕ → S → List F → C → List (Event F)
  events q s row k = happens size (asks s k) q row (sends s k q)

  abbrev pub history : ℕ → S → List F → List C → List (Event F)
  history q s row [] = []
  history q s row (k ∷ ks) = events q s row k ++ history q (next s k) (row_step q s row k) ks

  -- The take after the events p is a call of the list: a take on q that isn't refused, before which the calls js made p happen.
  abbrev pub TakeCall : ℕ → S → List F → List C → List (Event F) → Type 0
  TakeCall q s row ks p =
      (js : List C) × (k : C) × (ls : List C) × (ks ≡ js ++ k ∷ ls) × (asks (after_calls next s js) k ≡ Some q) × (history q s row js ≡ p)

  -- A frame f that was accepted after `before`, told by the calls.
  pub data Story (q : ℕ) (s : S) (ks : List C) (before : List (Event F)) (f : F) (after : List (Event F)) : Type 0 where
    -- It left at the call k: a take on q, the first that was due, and that take gave it.
    left_at : (js : List C) (k : C) (ls : List C) → ks ≡ js ++ k ∷ ls → asks (after_calls next s js) k ≡ Some q
        → (since rest : List (Event F)) → after ≡ since ++ Take ∷ rest → history q s [] js ≡ before ++ Join f ∷ since
        → Due priority before f since → NotYet priority before f since
        → given (pull priority (row_at q s [] js)) ≡ Some f → Story q s ks before f after
    -- No take was due, and it waits.
    stays_on : NotYet priority before f after → Memᴰ (ticket_of priority before f) (waiting priority (history q s [] ks)) → Story q s ks before f after

  -- Demand 3 at port q of a unit that was powered on to the state s, with every row empty: "for every list of calls on one unit".
  pub record Demand3 (q : ℕ) (s : S) : Type 0 where
    -- What has happened at the port grows with each call. "Takes on that port alone are counted, refused ones not": only a call that asks q adds a take.
    -- "No call but a take makes a frame leave": any other adds joins alone, of the frames that it sends there and that find room.
    pub grows : (ks : List C) (k : C) → history q s [] (ks ++ (k ∷ [])) ≡ history q s [] ks ++ events q (after_calls next s ks) (row_at q s [] ks) k
    -- The row holds the frames that wait.
    pub holds : (ks : List C) → row_at q s [] ks ≡ map (λ t. t.frame) (waiting priority (history q s [] ks))
    -- "A take that isn't refused gives exactly the frame that leaves at it."
    pub answers : (ks : List C) → given (pull priority (row_at q s [] ks)) ≡ frame_of priority (gives priority (history q s [] ks))
    -- Every take that is counted is a call of the list that takes on q and isn't refused.
    pub calls : (ks : List C) (p h : List (Event F)) → history q s [] ks ≡ p ++ Take ∷ h → TakeCall q s [] ks p
    -- "A frame accepted for a port, the unit's own too, leaves there once, unchanged, at the first take whose number after its acceptance is 1 + A + B.
    -- Until so many takes are made it waits."
    pub stories : (ks : List C) (before : List (Event F)) (f : F) (after : List (Event F)) → history q s [] ks ≡ before ++ Join f ∷ after
        → Story q s ks before f after
    -- And the law of one port, of every such history.
    pub obeys : PortLaw priority
