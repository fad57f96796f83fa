-- The bridge's book is a lawful one: it moves as rest and rows say, and a take is answered with what leaves its row. Assumes nothing.
use Rattle.bridge.specs.Told.{Took}
use mathlib.Core.Path.{◌≡◌, refl, ap}
use mathlib.Core.Bool.{Bool, true, false, cond}
use Rattle.std.specs.Prelude.{Option, None, Some}
use Prim.Native.Nat.{ℕ, zero, suc, ◌-◌, ◌<◌}
use native.Mathlib.Omega.{arith}
use borrow.Author.Tests.{eqb-true, eq-eqb, le-leb}
use lib.Dec.{eqb}
use lib.ListN.{length, get_or, replicate, length-replicate}
use Rattle.delivery.specs.Row.{pull, given}
use Rattle.delivery.specs.Product.{Lawful, Fresh}
use Rattle.queue.specs.declared.Frame.{Frame}
use Rattle.queue.specs.Queue.{priority, Queued, idle}
use Rattle.unit.specs.Model.{Rest, Model, row_at}
use Rattle.unit.specs.PowerOn.{fresh}
use Rattle.checks.specs.Ports.{is_port}
use Rattle.refusals.specs.Refusals.{take_refusal}
use Rattle.bridge.specs.Calls.{Call, FrameIn, TakeOut, Message, Start, Quiet, ReadUnit, ReadCounts, refusal, take_answer}
use Rattle.bridge.specs.Calls.{asks as asks_of}
use Rattle.refusals.proofs.Checks.{take_goes}
use Rattle.demand_3.specs.Demand3.{ToTake, words, answer, goes, asks, bridge}
use Rattle.demand_3.proofs.Moves.{rest_moves, queues_stay, row_moves}

module _ (ports : ℕ) where
  clash : {A : Type 0} (f : A) → None ≡ Some f → ⊥
  clash f e = let z : ◌≡◌ {A = ℕ} 0 1 = cc in omega arith

  -- ---- a take that is not refused
  pub take_goes_at : (q : ℕ) → q < ports → take_refusal ports (words ports) (suc q) ≡ 0
  unfolding take_refusal is_port
  take_goes_at q h = rw (le-leb 1 (suc q) (omega arith), le-leb (suc q) ports (omega arith), eq-eqb (words ports) (words ports) refl)

  -- who asks port q is a take on it
  none_asks : (b : Bool) (q : ℕ) → cond b None None ≡ Some q → ⊥
  none_asks true q e = clash q e
  none_asks false q e = clash q e

  asks_take : (rest : Rest) (k : Call) (q : ℕ) → asks ports rest k ≡ Some q → k ≡ TakeOut (suc q)
  unfolding asks asks_of refusal
  asks_take rest (FrameIn port id bytes) q e = absurd (none_asks (goes ports rest (FrameIn port id bytes)) q e)
  asks_take rest (TakeOut port) q e = go (goes ports rest (TakeOut port)) refl e
    where
      go : (b : Bool) → eqb (take_refusal ports (words ports) port) 0 ≡ b → cond b (Some (port - 1)) None ≡ Some q → TakeOut port ≡ TakeOut (suc q)
      go true z e =
          let n : port - 1 ≡ q = cc in
          let p : port ≡ suc q = omega (arith, (take_goes ports (words ports) port (eqb-true (take_refusal ports (words ports) port) 0 z)).1) in
          ap TakeOut p
      go false z e = absurd (clash q e)
  asks_take rest (Message port requester payload lentReply) q e = absurd (none_asks (goes ports rest (Message port requester payload lentReply)) q e)
  asks_take rest Start q e = absurd (none_asks (goes ports rest Start) q e)
  asks_take rest Quiet q e = absurd (none_asks (goes ports rest Quiet) q e)
  asks_take rest ReadUnit q e = absurd (none_asks (goes ports rest ReadUnit) q e)
  asks_take rest (ReadCounts port) q e = absurd (none_asks (goes ports rest (ReadCounts port)) q e)

  -- and it asks
  take_asks : (rest : Rest) (q : ℕ) → q < ports → asks ports rest (TakeOut (suc q)) ≡ Some q
  unfolding asks asks_of refusal
  take_asks rest q h = let e : suc q - 1 ≡ q = omega arith in rw (take_goes_at q h, e)

  -- what the book answers to it
  take_told : (m : Model) (q : ℕ) → q < ports → answer ports m (TakeOut (suc q)) ≡ ToTake (Took (given (pull priority (row_at m q))))
  unfolding answer take_answer
  take_told m q h = let e : suc q - 1 ≡ q = omega arith in rw (take_goes_at q h, e)

  nothing_told_lem : (o : Option Frame) → ToTake (Took o) ≡ ToTake (Took None) → o ≡ None
  nothing_told_lem None e = refl
  nothing_told_lem (Some f) e = let z : ◌≡◌ {A = ℕ} 0 1 = cc in absurd (omega arith)

  -- ---- the whole
  -- what the book keeps besides: a row for each port
  abbrev pub Fine : Model → Type 0
  Fine m = length m.queues ≡ ports

  pub lawful : Lawful (bridge ports) Fine
  lawful = record {
    stays_fine = (queues_stay ports);
    rest_moves = (rest_moves ports);
    row_moves = λ m k q h four. (row_moves ports) m k q h four;
    asks_take = asks_take;
    take_asks = take_asks;
    take_told = take_told;
    nothing_told_lem = nothing_told_lem;
  }

  pub idle_at : (n q : ℕ) → get_or (replicate n idle) q idle ≡ idle
  idle_at zero q = refl
  idle_at (suc n) zero = refl
  idle_at (suc n) (suc q) = idle_at n q

  pub powered_on : (name preferred : ℕ) → Fresh (bridge ports) Fine (fresh ports name preferred)
  powered_on name preferred = record { fine = length-replicate ports idle; empty = λ q h. ap (λ (x : Queued). x.row) (idle_at ports q) }
