-- The book of the bridge moves as the statement's functions say, port by port. Assumes nothing.
use mathlib.Core.Path.{◌≡◌, refl, ap, ◌∙◌}
use mathlib.Core.Bool.{Bool, true, false, cond}
use mathlib.Core.List.{[], ◌++◌}
use Rattle.std.specs.Prelude.{None}
use Prim.Native.Nat.{ℕ, ◌<◌}
use native.Mathlib.Omega.{arith}
use lib.ListN.{length}
use Rattle.delivery.specs.Unit.{row_next}
use Rattle.queue.specs.Queue.{size, priority, Queued, queue_next, idle}
use Rattle.queue.proofs.Rows.{row_next_lem}
use Rattle.unit.specs.Model.{Rest, Model, queue_on, row_at}
use Rattle.bridge.specs.Calls.{Call, FrameIn, TakeOut, Message, Start, Quiet, ReadUnit, ReadCounts, rest_after, performed}
use Rattle.bridge.specs.Calls.{next as next_of, asks as asks_of, sends as sends_of}
use Rattle.unit.proofs.Ports.{each_at, length_each}
use Rattle.demand_3.specs.Demand3.{words, next, goes, rest_next, asks, forwarded, forwards, announced, announces, sends}

module _ (ports : ℕ) where
  -- what is sent is the forwarded frame and the unit's own
  sends_is : (rest : Rest) (k : Call) (q : ℕ) → sends_of ports rest k q ≡ forwarded ports rest k q ++ announced ports rest k
  unfolding sends_of
  sends_is rest (FrameIn port id bytes) q = refl
  sends_is rest (TakeOut port) q = refl
  sends_is rest (Message port requester payload lentReply) q = refl
  sends_is rest Start q = refl
  sends_is rest Quiet q = refl
  sends_is rest ReadUnit q = refl
  sends_is rest (ReadCounts port) q = refl

  module _ (m : Model) (k : Call) where
    pub rest_moves : ((next ports) m k).rest ≡ rest_next ports m.rest k
    unfolding next_of rest_next performed
    rest_moves = go (goes ports m.rest k)
      where
        go : (b : Bool) → (cond b (performed ports (words ports) m k) m).rest ≡ cond b (rest_after ports (words ports) m.rest k) m.rest
        go true = refl
        go false = refl

    pub queues_stay : length m.queues ≡ ports → length (next ports m k).queues ≡ ports
    unfolding next_of performed
    queues_stay four = go (goes ports m.rest k)
      where
        go : (b : Bool) → length (cond b (performed ports (words ports) m k) m).queues ≡ ports
        go true = length_each (λ q x. queue_next (asks_of k) q x (sends_of ports m.rest k q)) ports m.queues ∙ four
        go false = four

    -- a port's queue, what is counted there too
    pub queue_moves : (q : ℕ) → q < ports → length m.queues ≡ ports
        → queue_on (next ports m k) q ≡ queue_next (asks ports m.rest k) q (queue_on m q) (sends ports m.rest k q)
    unfolding next_of performed asks forwards announces
    queue_moves q h four = go (goes ports m.rest k)
      where
        go : (b : Bool) → queue_on (cond b (performed ports (words ports) m k) m) q
            ≡ queue_next (cond b (asks_of k) None) q (queue_on m q) (cond b (forwarded ports m.rest k q) [] ++ cond b (announced ports m.rest k) [])
        go true =
            rw (← (sends_is m.rest k q))
            (each_at (λ q x. queue_next (asks_of k) q x (sends_of ports m.rest k q)) ports m.queues q idle h (omega arith))
        go false = refl

    pub row_moves : (q : ℕ) → q < ports → length m.queues ≡ ports
        → row_at (next ports m k) q ≡ row_next priority size (asks ports m.rest k) q (row_at m q) (sends ports m.rest k q)
    row_moves q h four = ap (λ (x : Queued). x.row) (queue_moves q h four) ∙ row_next_lem (asks ports m.rest k) q (queue_on m q) (sends ports m.rest k q)
