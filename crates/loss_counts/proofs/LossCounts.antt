-- The counters of losses in every list of calls: one call moves a counter as its answer says, so every list does. Assumes nothing.
use mathlib.Core.Path.{◌≡◌, refl, ap, ◌∙◌}
use mathlib.Core.Bool.{Bool, true, false, cond}
use mathlib.Core.List.{List, [], ◌∷◌}
use Prim.Native.Nat.{ℕ, zero, suc, ◌+◌}
use lib.Dec.{eqb}
use lib.ListN.{get_or, replicate, length-replicate}
use Rattle.delivery.specs.Calls.{after_calls, answers_of}
use Rattle.unit.specs.Count.{count_of, pair_count}
use Rattle.unit.specs.Model.{Model, pair_at, general_at, with_losses, model_of}
use Rattle.unit.specs.PowerOn.{fresh}
use Rattle.bridge.specs.Calls.{Call, refusal, performed, frame_answer, frame_passed, take_answer, start_answer}
use Rattle.bridge.specs.Calls.{next as next_of}
use Rattle.made.specs.Made.{Powered}
use Rattle.demand_3.specs.Demand3.{Answer, words, next, answer, Demand3}
use Rattle.demand_3.proofs.Demand3.{demand_3}
use Rattle.loss_counts.specs.LossCounts.{lost_between, lost_anywhere, resets_pair, resets_general, since, stayed, Counted, Unread, EveryLoss}
use Rattle.loss_counts.proofs.Turns.{up, up_stayed}
use Rattle.loss_counts.proofs.OneCall.{Fine, stays_fine, pair_step, general_step}

zeros : (n i : ℕ) → get_or {A = ℕ} (replicate n 0) i 0 ≡ 0
zeros zero i = refl
zeros (suc n) zero = refl
zeros (suc n) (suc i) = zeros n i

module _ (ports : ℕ) where
  -- any counter that one call moves so
  module _ (i : ℕ) (resets : Call → Answer → Bool) (lost : Call → Answer → ℕ)
      (step : (m : Model) → Fine ports m → (k : Call) → get_or (next ports m k).seen.losses i 0 ≡ cond (resets k (answer ports m k)) 0 (up (lost k (answer ports m k)) (get_or m.seen.losses i 0))) where
    moved : (m : Model) (n : ℕ) (k : Call) → Fine ports m → get_or m.seen.losses i 0 ≡ stayed n
        → get_or (next ports m k).seen.losses i 0 ≡ stayed (cond (resets k (answer ports m k)) 0 (n + lost k (answer ports m k)))
    moved m n k fine e = step m fine k ∙ go (resets k (answer ports m k))
      where
        go : (b : Bool) → cond b 0 (up (lost k (answer ports m k)) (get_or m.seen.losses i 0)) ≡ stayed (cond b 0 (n + lost k (answer ports m k)))
        go true = refl
        go false = ap (up (lost k (answer ports m k))) e ∙ up_stayed (lost k (answer ports m k)) n

    counts : (ks : List Call) (m : Model) (n : ℕ) → Fine ports m → get_or m.seen.losses i 0 ≡ stayed n
        → get_or (after_calls (next ports) m ks).seen.losses i 0 ≡ stayed (since resets lost n ks (answers_of (next ports) (answer ports) m ks))
    counts [] m n fine e = e
    counts (k ∷ ks) m n fine e = counts ks (next ports m k) (cond (resets k (answer ports m k)) 0 (n + lost k (answer ports m k))) (stays_fine ports m k fine) (moved m n k fine e)

  -- power-on: a counter for each, and nothing lost
  module _ (name preferred : ℕ) where
    start_fine : Fine ports (fresh ports name preferred)
    unfolding Fine
    start_fine = length-replicate (pair_count ports + 1) 0

    counted : (ks : List Call) (xs : List Answer) (v : List ℕ) → Demand3 ports name preferred ks xs v → Counted ports ks xs (model_of ports v)
    counted ks xs v D = record {
      pairs = λ p q h k ne.
          rw (D.state, D.answers)
          (counts (pair_at ports p q) (resets_pair p q) (lost_between p q) (λ m fine c. pair_step ports m fine p q h k ne c) ks (fresh ports name preferred) 0 start_fine (zeros (pair_count ports + 1) (pair_at ports p q)));
      general =
          rw (D.state, D.answers)
          (counts (general_at ports) resets_general (lost_anywhere ports) (general_step ports) ks (fresh ports name preferred) 0 start_fine (zeros (pair_count ports + 1) (general_at ports)));
    }

  -- ---- no counter is read
  unread : (m : Model) (losses : List ℕ) → Unread ports m losses
  unfolding next_of performed answer frame_answer frame_passed take_answer start_answer
  unread m losses = record {
    rest = λ k. by (eqb (refusal ports (words ports) m.rest k) 0) k;
    queues = λ k. too (eqb (refusal ports (words ports) m.rest k) 0) k;
    frames = λ port id bytes. refl;
    takes = λ port. refl;
    starts = refl;
    numbers = λ port requester payload lentReply. refl;
  }
    where
      by : (b : Bool) (k : Call) → (cond b (performed ports (words ports) (with_losses m losses) k) (with_losses m losses)).rest ≡ (cond b (performed ports (words ports) m k) m).rest
      by true k = refl
      by false k = refl

      too : (b : Bool) (k : Call) → (cond b (performed ports (words ports) (with_losses m losses) k) (with_losses m losses)).queues ≡ (cond b (performed ports (words ports) m k) m).queues
      too true k = refl
      too false k = refl

pub every_loss : {w u : List ℕ} {name preferred count r : ℕ} → Powered w name preferred count r u → (r ≡ 2 → ⊥) → EveryLoss u count
every_loss {name = name} {preferred = preferred} {count = count} h z = record {
  counted = λ ks xs v run. counted (count_of count) name preferred ks xs v ((demand_3 h).every z ks xs v run);
  unread = unread (count_of count);
}
