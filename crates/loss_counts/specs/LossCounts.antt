-- docs/RULES.md, "Parameters": the counters of losses, in every list of calls from power-on. Proved as `every_loss` in proofs/LossCounts.antt.
-- A counter is said by the answers that the calls were given, which demand 3 holds to the book: the ports named as lost, and the ports where the unit's own
-- frame was lost. The quoted words are the request's. In this file ports are counted from 0. Assumes nothing.
use Rattle.std.specs.Prelude.{◌≡◌, Bool, false, cond, ◌&&◌, List, [], ◌∷◌, ℕ, suc, ◌+◌, ◌*◌, ◌/◌, ◌%◌, ◌<◌, eqb, ltb, get_or}
use Rattle.delivery.specs.Product.{Answered}
use Rattle.delivery.specs.Calls.{Run}
use Rattle.unit.specs.Count.{count_of, pair_count}
use Rattle.unit.specs.Ports.{bit_at, total}
use Rattle.unit.specs.Model.{Model, row_at, pair_at, with_losses, model_of}
use Rattle.bridge.specs.Calls.{Call, FrameIn, TakeOut, Message, Start, Quiet, ReadUnit, ReadCounts}
use Rattle.demand_3.specs.Demand3.{Answer, ToFrame, ToTake, ToMessage, ToStart, ToQuiet, ToUnit, ToCounts, Made, next, answer, number_in, lost_ports, own_lost_ports}

-- ---- what one call, answered x, counts
-- "one for each frame and lost port": for the pair p to q, a frame that came in at p and was lost at q
abbrev pub lost_between : ℕ → ℕ → Call → Answer → ℕ
lost_between p q (FrameIn port id bytes) x = cond (eqb port (suc p) && bit_at (lost_ports x) q) 1 0
lost_between p q (TakeOut port) x = 0
lost_between p q (Message port requester payload lentReply) x = 0
lost_between p q Start x = 0
lost_between p q Quiet x = 0
lost_between p q ReadUnit x = 0
lost_between p q (ReadCounts port) x = 0

-- how many ports a mask names
abbrev pub named : ℕ → ℕ → ℕ
named ports set = total (λ q. cond (bit_at set q) 1 0) ports

-- in general: every lost port; "the unit's own lost frames count in general only"
abbrev pub lost_anywhere : ℕ → Call → Answer → ℕ
lost_anywhere ports k x = named ports (lost_ports x) + named ports (own_lost_ports x)

-- a reset that was done, by the payload's own bytes: 133 with the pair's From and To, or 130
abbrev pub resets_pair : ℕ → ℕ → Call → Answer → Bool
resets_pair p q (FrameIn port id bytes) x = false
resets_pair p q (TakeOut port) x = false
resets_pair p q (Message port requester payload lentReply) x =
    eqb (number_in x) 0 && (eqb (get_or payload 0 0) 133 && (eqb (get_or payload 1 0 / 16) (suc p) && eqb (get_or payload 1 0 % 16) (suc q)))
resets_pair p q Start x = false
resets_pair p q Quiet x = false
resets_pair p q ReadUnit x = false
resets_pair p q (ReadCounts port) x = false

abbrev pub resets_general : Call → Answer → Bool
resets_general (FrameIn port id bytes) x = false
resets_general (TakeOut port) x = false
resets_general (Message port requester payload lentReply) x = eqb (number_in x) 0 && eqb (get_or payload 0 0) 130
resets_general Start x = false
resets_general Quiet x = false
resets_general ReadUnit x = false
resets_general (ReadCounts port) x = false

-- ---- "Losses count from power-on or last reset .. and stay at 64,255"
-- the losses since the last reset, n of them before these calls
abbrev pub since : (Call → Answer → Bool) → (Call → Answer → ℕ) → ℕ → List Call → List Answer → ℕ
since resets lost n [] xs = n
since resets lost n (k ∷ ks) [] = n
since resets lost n (k ∷ ks) (x ∷ xs) = since resets lost (cond (resets k x) 0 (n + lost k x)) ks xs

abbrev pub stayed : ℕ → ℕ
stayed n = cond (ltb n 64255) n 64255

module _ (ports : ℕ) where
  -- the counters of a model, after the calls ks that were answered xs
  pub record Counted (ks : List Call) (xs : List Answer) (m : Model) : Type 0 where
    pub pairs : (p q : ℕ) → p < ports → q < ports → (p ≡ q → ⊥)
        → get_or m.seen.losses (pair_at ports p q) 0 ≡ stayed (since (resets_pair p q) (lost_between p q) 0 ks xs)
    pub general : get_or m.seen.losses (pair_count ports) 0 ≡ stayed (since resets_general (lost_anywhere ports) 0 ks xs)

  -- What crosses, waits and is refused does not depend on a counter: with other losses a call does the same to all else, and answers the same unless it is a
  -- message, whose reply may tell them
  pub record Unread (m : Model) (losses : List ℕ) : Type 0 where
    pub rest : (k : Call) → (next ports (with_losses m losses) k).rest ≡ (next ports m k).rest
    pub queues : (k : Call) → (next ports (with_losses m losses) k).queues ≡ (next ports m k).queues
    pub frames : (port id : ℕ) (bytes : List ℕ) → answer ports (with_losses m losses) (FrameIn port id bytes) ≡ answer ports m (FrameIn port id bytes)
    pub takes : (port : ℕ) → answer ports (with_losses m losses) (TakeOut port) ≡ answer ports m (TakeOut port)
    pub starts : answer ports (with_losses m losses) Start ≡ answer ports m Start
    pub numbers : (port requester : ℕ) (payload : List ℕ) (lentReply : ℕ)
        → number_in (answer ports (with_losses m losses) (Message port requester payload lentReply)) ≡ number_in (answer ports m (Message port requester payload lentReply))

-- the whole claim, from any power-on that counts as one, with the calls made by the real functions, of which the contracts alone are known
pub record EveryLoss (u : List ℕ) (count : ℕ) : Type 0 where
  pub counted : (ks : List Call) (xs : List Answer) (v : List ℕ) → Run Made u ks xs v → Counted (count_of count) ks xs (model_of (count_of count) v)
  pub unread : (m : Model) (losses : List ℕ) → Unread (count_of count) m losses
