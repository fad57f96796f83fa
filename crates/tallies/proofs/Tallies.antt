-- What is counted at a port equals a recount in every list of calls: one call keeps it, so every list does. Assumes nothing.
use mathlib.Core.Path.{◌≡◌, subst, ◌∙◌}
use mathlib.Core.List.{List, [], ◌∷◌, ◌++◌, append_assoc, append-nil}
use Prim.Native.Nat.{ℕ, suc, ◌-◌, ◌<◌}
use native.Mathlib.Omega.{arith}
use lib.ListN.{length, length-replicate}
use Rattle.delivery.specs.Calls.{after_calls}
use Rattle.delivery.specs.Port.{Event}
use Rattle.delivery.specs.Unit.{history}
use Rattle.delivery.proofs.Product.{answered}
use Rattle.queue.specs.declared.Frame.{Frame}
use Rattle.queue.specs.Queue.{size, priority, Queued, idle}
use Rattle.unit.specs.Count.{count_of}
use Rattle.unit.specs.Model.{Model, queue_on, row_at}
use Rattle.unit.specs.PowerOn.{fresh}
use Rattle.bridge.specs.Calls.{Call, ReadCounts, counts_answer}
use Rattle.made.specs.Made.{Powered}
use Rattle.demand_3.specs.Demand3.{Answer, ToCounts, next, answer, rest_next, asks, sends, model_after, Demand3}
use Rattle.demand_3.proofs.Moves.{rest_moves, queues_stay, queue_moves, row_moves}
use Rattle.demand_3.proofs.AtPort.{take_goes_at, idle_at}
use Rattle.demand_3.proofs.Demand3.{demand_3}
use Rattle.tallies.specs.Tallies.{history_of, Tallied, Counts, EveryCount}
use Rattle.tallies.proofs.Kept.{Kept, kept_idle, kept_next}

module _ (ports : ℕ) where
  -- ---- a list of calls
  kept_list : (q : ℕ) → q < ports → (ks : List Call) (m : Model) (h : List (Event Frame)) → length m.queues ≡ ports → Kept (queue_on m q) h
      → Kept (queue_on (after_calls (next ports) m ks) q) (h ++ history priority size (rest_next ports) (asks ports) (sends ports) q m.rest (row_at m q) ks)
  kept_list q l [] m h long K = rw (append-nil h) K
  kept_list q l (k ∷ ks) m h long K =
      let now = kept_next K (asks ports m.rest k) q (sends ports m.rest k q) in
      let moved = queue_moves ports m k q l long in
      let then = kept_list q l ks (next ports m k) _ (queues_stay ports m k long) (rw (← moved) at now) in
      rw (← (append_assoc h _ _), ← (rest_moves ports m k), ← (row_moves ports m k q l long)) then

  -- ---- from power-on
  module _ (name preferred : ℕ) where
    tallied : (js : List Call) (q : ℕ) → q < ports → Tallied ports name preferred js q (queue_on (model_after ports name preferred js) q).tally
    tallied js q l =
        let start = fresh ports name preferred in
        let K = kept_list q l js start [] (length-replicate ports idle) (rw (idle_at ports ports q) kept_idle) in
        let J : Kept (queue_on (model_after ports name preferred js) q) (history_of ports name preferred q js) =
        subst (λ (x : Queued). Kept (queue_on (model_after ports name preferred js) q) (history priority size (rest_next ports) (asks ports) (sends ports) q start.rest x.row js)) (idle_at ports ports q) K in
        record { eight = J.eight; waiting = J.waiting; accepted = J.accepted; taken = J.taken; sum = J.sum }

    counts_told : (m : Model) (q : ℕ) → q < ports → answer ports m (ReadCounts (suc q)) ≡ ToCounts (record { refusal = 0; tally = (queue_on m q).tally })
    unfolding answer counts_answer
    counts_told m q h = let e : suc q - 1 ≡ q = omega arith in rw (take_goes_at ports q h, e)

    counts : (ks : List Call) (xs : List Answer) (v : List ℕ) → Demand3 ports name preferred ks xs v → Counts ports name preferred ks xs v
    counts ks xs v D = record {
      held = λ q l. rw D.state (tallied ks q l);
      told = λ js q x l a.
          let m = model_after ports name preferred js in
          ((queue_on m q).tally, answered (next ports) (answer ports) (fresh ports name preferred) D.answers a ∙ counts_told m q l, tallied js q l);
    }

pub every_count : {w u : List ℕ} {name preferred count r : ℕ} → Powered w name preferred count r u → (r ≡ 2 → ⊥) → EveryCount u name preferred count
every_count {name = name} {preferred = preferred} {count = count} h z = λ ks xs v run. counts (count_of count) name preferred ks xs v ((demand_3 h).every z ks xs v run)
