-- docs/RULES.md, "How full a queue is": what is counted at a port, in every list of calls from power-on. Proved as `every_count` in proofs/Tallies.antt.
-- The quoted words are the request's. In this file ports are counted from 0. Assumes nothing.
use Rattle.std.specs.Prelude.{◌≡◌, List, [], ◌∷◌, ◌++◌, ℕ, suc, ◌+◌, ◌%◌, ◌^◌, ◌<◌, eqb, length, get_or, Option, None, Some}
use Rattle.delivery.specs.Row.{pull, given, kept}
use Rattle.delivery.specs.Port.{Event, Join, Take, joined, count}
use Rattle.delivery.specs.Product.{Answered, happened}
use Rattle.delivery.specs.Calls.{Run}
use Rattle.queue.specs.declared.Frame.{Frame}
use Rattle.queue.specs.declared.Tally.{Tally}
use Rattle.queue.specs.Queue.{priority}
use Rattle.unit.specs.Count.{count_of}
use Rattle.unit.specs.Model.{queue_on, row_at, model_of}
use Rattle.unit.specs.PowerOn.{fresh}
use Rattle.bridge.specs.Calls.{Call, ReadCounts}
use Rattle.demand_3.specs.Demand3.{Answer, ToCounts, Made, bridge, model_after}

-- the frames that the takes of a history gave, from a row on: a take that finds the row empty gives none
abbrev pub frames : Option Frame → List Frame
frames None = []
frames (Some f) = f ∷ []

abbrev pub gone : List Frame → List (Event Frame) → List Frame
gone row [] = []
gone row (Join f ∷ h) = gone (row ++ (f ∷ [])) h
gone row (Take ∷ h) = frames (given (pull priority row)) ++ gone (kept (pull priority row)) h

module _ (ports name preferred : ℕ) where
  -- "the history of calls", as demand 3 has it at port q: frames accepted there, and takes made there that weren't refused
  abbrev pub history_of : ℕ → List Call → List (Event Frame)
  history_of q js = happened (bridge ports) (fresh ports name preferred) q js

  -- what is counted at port q after the calls js
  pub record Tallied (js : List Call) (q : ℕ) (t : Tally) : Type 0 where
    -- "Keep eight counts for each port. After every call since power-on they equal a recount": of the frames of each rank in the book's row
    pub eight : length t.waiting ≡ 8
    pub waiting : (rank : ℕ) → rank < 8 → get_or t.waiting rank 0 ≡ count (λ f. eqb (priority f) rank) (row_at (model_after ports name preferred js) q)
    -- "frames accepted and taken since then", "remainders by 2^64"
    pub accepted : t.accepted ≡ length (joined (history_of q js)) % 2 ^ 64
    pub taken : t.taken ≡ length (gone [] (history_of q js)) % 2 ^ 64
    -- "accepted equals taken plus waiting", over the numbers themselves
    pub sum : length (joined (history_of q js)) ≡ length (gone [] (history_of q js)) + length (row_at (model_after ports name preferred js) q)

  -- the calls ks were made from power-on on, were answered xs and left the record v
  pub record Counts (ks : List Call) (xs : List Answer) (v : List ℕ) : Type 0 where
    -- in the record
    pub held : (q : ℕ) → q < ports → Tallied ks q (queue_on (model_of ports v) q).tally
    -- and what the call that reads them told, wherever it was made
    pub told : (js : List Call) (q : ℕ) (x : Answer) → q < ports → Answered ks xs js (ReadCounts (suc q)) x
        → (t : Tally) × (x ≡ ToCounts (record { refusal = 0; tally = t })) × Tallied js q t

-- the whole claim, from any power-on that counts as one, with the calls made by the real functions, of which the contracts alone are known
abbrev pub EveryCount : (u : List ℕ) (name preferred count : ℕ) → Type 0
EveryCount u name preferred count = (ks : List Call) (xs : List Answer) (v : List ℕ) → Run Made u ks xs v → Counts (count_of count) name preferred ks xs v
