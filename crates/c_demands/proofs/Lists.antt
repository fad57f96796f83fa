-- A list of exported calls is a list of the bridge's calls, with the same record. By induction on the list. Assumes nothing.
use mathlib.Core.Path.{◌≡◌, refl}
use mathlib.Core.Bool.{Bool, true, false}
use mathlib.Core.List.{List, [], ◌∷◌}
use Prim.Native.Nat.{ℕ}
use lib.ListN.{length}
use Rattle.delivery.specs.Calls.{Run, stop, call}
use Rattle.bridge.specs.Calls.{Call}
use Rattle.unit.specs.Count.{ports_of}
use Rattle.unit.specs.Model.{record_length}
use Rattle.demand_3.specs.Demand3.{Answer}
use Rattle.demand_3.specs.Demand3 as demand_3
use Rattle.demand_3.proofs.OneCall.{Good, simulates}
use Rattle.c_demands.specs.CDemands.{Exported, Gave, Made, lends, IsCall, IsNone, Same, none, called, passed}
use Rattle.c_demands.proofs.Calls.{is_call, is_none}

pub record Leads (ports : ℕ) (u : List ℕ) (cs : List Exported) (gs : List Gave) (v : List ℕ) : Type 0 where
  pub ks : List Call
  pub xs : List Answer
  pub run : Run demand_3.Made u ks xs v
  pub same : Same ports cs gs ks xs

one_more_lem : {ports : ℕ} {u v w : List ℕ} {c : Exported} {g : Gave} {cs : List Exported} {gs : List Gave} → lends c ≡ true → IsCall u c g v → Leads ports v cs gs w → Leads ports u (c ∷ cs) (g ∷ gs) w
one_more_lem l I L = record { ks = _; xs = I.answer ∷ L.xs; run = call I.made L.run; same = called l I.tells L.same }

none_more : {ports : ℕ} {u v w : List ℕ} {c : Exported} {g : Gave} {cs : List Exported} {gs : List Gave} → lends c ≡ false → ports_of u ≡ ports → IsNone u c g v → Leads ports v cs gs w → Leads ports u (c ∷ cs) (g ∷ gs) w
none_more {ports} {u} {v} l p N L = record { ks = L.ks; xs = L.xs; run = rw N.unchanged at L.run; same = passed l (rw p at N.refused) L.same }

pub leads : {ports : ℕ} {u v : List ℕ} {cs : List Exported} {gs : List Gave} → Good ports u → Run Made u cs gs v → Leads ports u cs gs v
leads good stop = record { ks = []; xs = []; run = stop; same = none }
leads {ports} good (call {u = u} {v = v} {w = w} {k = c} {x = g} {ks = cs} {xs = gs} m r) = go (lends c) refl (λ l. leads l r)
  where
    full : length u ≡ record_length (ports_of u)
    full = rw good.1 good.0

    go : (b : Bool) → lends c ≡ b → (Good ports v → Leads ports v cs gs w) → Leads ports u (c ∷ cs) (g ∷ gs) w
    go true l later = let I = is_call full m l in one_more_lem l I (later ((simulates ports).step good I.made).good)
    go false l later = let N = is_none m l in none_more l good.1 N (later (rw N.unchanged good))
