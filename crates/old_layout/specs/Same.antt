-- Ticket 6: "All answers but the compared count are proved the same as the old layout": two runs of the same calls,
-- each from a power-on on words of its own, the old layout's by its contract (OldLayout.antt) and the real functions'
-- by theirs. Replies, refusals and what is told with them are answers too. Nothing is said of how the records stand:
-- that lists are in order follows from power-on. Proved as `same_answers` in proofs/Same.antt.
-- Assumes nothing.
use Rattle.bridge.specs.Told.{FrameTold}
use Rattle.std.specs.Prelude.{◌≡◌, not, List, map, ℕ, eqb}
use Rattle.delivery.specs.Calls.{Run}
use Rattle.unit.specs.PowerOn.{not_long}
use Rattle.bridge.specs.Calls.{Call}
use Rattle.made.specs.Made.{Powered}
use Rattle.demand_3.specs.Demand3.{Answer, ToFrame, ToTake, ToMessage, ToStart, ToQuiet, ToUnit, ToCounts, Made}
use Rattle.old_layout.specs.OldLayout.{old_length, as_lent, OldPowered, OldMade}

-- a frame's answer without its count
abbrev pub countless : FrameTold → FrameTold
countless r = record {
  refusal = r.refusal;
  consumed = r.consumed;
  accepted = r.accepted;
  lost = r.lost;
  event = r.event;
  unsent = r.unsent;
  compared = 0;
  reasons = r.reasons;
}

-- every other answer is itself
abbrev pub uncounted : Answer → Answer
uncounted (ToFrame r) = ToFrame (countless r)
uncounted (ToTake r) = ToTake r
uncounted (ToMessage r reply) = ToMessage r reply
uncounted (ToStart r) = ToStart r
uncounted (ToQuiet number) = ToQuiet number
uncounted (ToUnit r) = ToUnit r
uncounted (ToCounts r) = ToCounts r

-- the whole claim: the same NAME, preferred address and count of ports, and two power-ons that were not refused with 2
pub record SameAnswers (name preferred count : ℕ) : Type 0 where
  pub same : {w u v w' u' v' : List ℕ} {r r' : ℕ} {ks : List Call} {xs ys : List Answer}
      → OldPowered w name preferred count r u → (r ≡ 2 → ⊥) → Powered w' name preferred count r' u' → (r' ≡ 2 → ⊥)
      → Run OldMade u ks xs v → Run Made u' ks ys v' → map uncounted xs ≡ map uncounted ys
  -- and such a run of the old layout is there, for every run of the real functions: its words are the real ones, each
  -- pair's block cut to its first 59
  pub runs : {w' u' v' : List ℕ} {r' : ℕ} {ks : List Call} {ys : List Answer}
      → Powered w' name preferred count r' u' → (r' ≡ 2 → ⊥) → Run Made u' ks ys v'
      → (w : List ℕ) × (u : List ℕ) × (v : List ℕ) × (r : ℕ) × (xs : List Answer)
      × OldPowered w name preferred count r u × (r ≡ 2 → ⊥) × Run OldMade u ks xs v
  -- a right length of the old record stands for a right one, and no other
  pub lent : (ports n : ℕ) → not_long ports (as_lent ports n) ≡ not (eqb n (old_length ports))
