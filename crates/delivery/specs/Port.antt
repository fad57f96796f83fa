-- Demand 3 at one port. A history is the list of what happened at the port since power-on: `before`, then the frame `f` is accepted, then `since`.
-- The quoted words are the customer's. `port_law` of proofs/Port.antt proves `PortLaw` for every kind of frame and every priority.
use Rattle.std.specs.Prelude.{◌≡◌, ◌↔◌, Bool, cond, ℕ, suc, ◌+◌, length, leb, ltb, Option, None, Some}
use mathlib.Core.List.{List, [], ◌∷◌, ◌++◌, map, Memᴰ}
use Rattle.delivery.specs.Row.{pull, given, kept}

-- What happens at a port: a frame is accepted and joins the row's end, or a take is made there that isn't refused.
pub data Event (F : Type 0) : Type 0 where
  Join : F → Event F
  Take : Event F

module _ {F : Type 0} where
  -- "Takes on that port alone are counted, refused ones not."
  abbrev pub takes : List (Event F) → ℕ
  takes [] = 0
  takes (Join f ∷ h) = takes h
  takes (Take ∷ h) = suc (takes h)

  -- The frames accepted there, in order.
  abbrev pub joined : List (Event F) → List F
  joined [] = []
  joined (Join f ∷ h) = f ∷ joined h
  joined (Take ∷ h) = joined h

  -- How many frames pass a test.
  abbrev pub count : (F → Bool) → List F → ℕ
  count test [] = 0
  count test (f ∷ fs) = cond (test f) 1 0 + count test fs

-- A frame with its joining number at the port: 0 for the first that joined there since power-on, and so on. Two frames may be equal, two tickets never.
pub record Ticket (F : Type 0) : Type 0 where
  pub number : ℕ
  pub frame : F

abbrev pub ticket : {F : Type 0} → ℕ → F → Ticket F
ticket n f = record { number = n; frame = f }

module _ {F : Type 0} (priority : F → ℕ) where
  -- The row after a list of events.
  abbrev pub row_after : List F → List (Event F) → List F
  row_after row [] = row
  row_after row (Join f ∷ h) = row_after (row ++ (f ∷ [])) h
  row_after row (Take ∷ h) = row_after (kept (pull priority row)) h

  -- "A counts the other frames waiting there at its acceptance, of equal or higher rank."
  abbrev pub A : List (Event F) → F → ℕ
  A before f = count (λ g. leb (priority g) (priority f)) (row_after [] before)

  -- "B counts those of higher rank accepted there later, before that take."
  abbrev pub B : F → List (Event F) → ℕ
  B f since = count (λ g. ltb (priority g) (priority f)) (joined since)

  -- A take made after `since` is one "whose number after its acceptance is 1 + A + B".
  abbrev pub Due : List (Event F) → F → List (Event F) → Type 0
  Due before f since = 1 + takes since ≡ 1 + A before f + B f since

  -- No take among `since` was due. Due × NotYet: it is "the first take whose number after its acceptance is 1 + A + B".
  abbrev pub NotYet : List (Event F) → F → List (Event F) → Type 0
  NotYet before f since = (p q : List (Event F)) → since ≡ p ++ Take ∷ q → ¬ Due before f p

  -- ---- the same row with tickets, so that equal frames can be told apart (`frames` and `answer` below: the tickets change nothing)
  abbrev pub ticket_priority : Ticket F → ℕ
  ticket_priority t = priority t.frame

  -- The row after a list of events, where n frames have joined already.
  abbrev pub tickets_after : ℕ → List (Ticket F) → List (Event F) → List (Ticket F)
  tickets_after n row [] = row
  tickets_after n row (Join f ∷ h) = tickets_after (suc n) (row ++ (ticket n f ∷ [])) h
  tickets_after n row (Take ∷ h) = tickets_after n (kept (pull ticket_priority row)) h

  -- Who waits after a history.
  abbrev pub waiting : List (Event F) → List (Ticket F)
  waiting h = tickets_after 0 [] h

  -- What a take gives after a history.
  abbrev pub gives : List (Event F) → Option (Ticket F)
  gives h = given (pull ticket_priority (waiting h))

  -- The ticket of the frame that joins after `before`.
  abbrev pub ticket_of : List (Event F) → F → Ticket F
  ticket_of before f = ticket (length (joined before)) f

  abbrev pub frame_of : Option (Ticket F) → Option F
  frame_of None = None
  frame_of (Some t) = Some t.frame

  -- What becomes of a frame in any history after its acceptance: one of two stories.
  pub data Fate (before : List (Event F)) (f : F) (after : List (Event F)) : Type 0 where
    left : (since rest : List (Event F)) → after ≡ since ++ Take ∷ rest → Due before f since → NotYet before f since
        → gives (before ++ Join f ∷ since) ≡ Some (ticket_of before f) → Fate before f after
    stays : NotYet before f after → Memᴰ (ticket_of before f) (waiting (before ++ Join f ∷ after)) → Fate before f after

  pub record PortLaw : Type 0 where
    -- "A frame accepted for a port, the unit's own too, leaves there .. unchanged, at the first take whose number after its acceptance is 1 + A + B",
    -- and at no other.
    pub leaves : (before : List (Event F)) (f : F) (since : List (Event F))
        → (gives (before ++ Join f ∷ since) ≡ Some (ticket_of before f)) ↔ (Due before f since × NotYet before f since)
    -- "Until so many takes are made it waits." "No call but a take makes a frame leave": NotYet looks at takes alone.
    pub waits : (before : List (Event F)) (f : F) (since : List (Event F))
        → Memᴰ (ticket_of before f) (waiting (before ++ Join f ∷ since)) ↔ NotYet before f since
    -- Both as one: it left at such a take, or none was made and it waits.
    pub fate : (before : List (Event F)) (f : F) (after : List (Event F)) → Fate before f after
    -- "Leaves there once": two takes of one history that give it are the same take.
    pub once : (before : List (Event F)) (f : F) (after p q p' q' : List (Event F)) → after ≡ p ++ Take ∷ q → after ≡ p' ++ Take ∷ q'
        → gives (before ++ Join f ∷ p) ≡ Some (ticket_of before f) → gives (before ++ Join f ∷ p') ≡ Some (ticket_of before f) → p ≡ p'
    -- "A take that isn't refused gives exactly the frame that leaves at it": what it gives was accepted there, and this is the first take that is due.
    pub exactly : (h : List (Event F)) (t : Ticket F) → gives h ≡ Some t
        → (before : List (Event F)) × (since : List (Event F)) × (h ≡ before ++ Join t.frame ∷ since) × (t ≡ ticket_of before t.frame)
        × Due before t.frame since × NotYet before t.frame since
    -- "Or ‘nothing waiting’ exactly when no frame waits there."
    pub nothing : (h : List (Event F)) → (gives h ≡ None) ↔ (waiting h ≡ [])
    -- Without the tickets it is the plain row, and the plain take.
    pub frames : (h : List (Event F)) → map (λ t. t.frame) (waiting h) ≡ row_after [] h
    pub answer : (h : List (Event F)) → given (pull priority (row_after [] h)) ≡ frame_of (gives h)
