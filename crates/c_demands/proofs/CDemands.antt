-- The exported functions have the demands: one call by its contract, then every list. Assumes nothing.
use Rattle.message_answers.specs.Messages.{MessageTold}
use mathlib.Core.Path.{◌≡◌, refl, sym, ap, ◌∙◌}
use mathlib.Core.List.{List}
use Prim.Native.Nat.{ℕ, ◌≤◌}
use native.Mathlib.Decide.{ℕ_discrete}
use native.Mathlib.Omega.{arith}
use lib.ListN.{length}
use Rattle.delivery.specs.Calls.{Run}
use Rattle.deorasaeng.specs.Interface.{message_length, MessageCall}
use Rattle.unit.specs.Count.{count_of, ports_of}
use Rattle.unit.proofs.Count.{count_same}
use Rattle.made.specs.Made as made
use Rattle.demand_2.specs.Demand2.{SameTo}
use Rattle.demand_2.proofs.Demand2.{demand_2}
use Rattle.demand_3.proofs.Demand3.{demand_3, powered_good}
use Rattle.c_demands.specs.Exported.{Powered, powered, PoweredFour, powered_four, Handed, handed}
use Rattle.c_demands.specs.CDemands.{Exported, Gave, Made, frame_made, take_made, message_made, start_made, quiet_made, unit_made, counts_made, queue_made, Listed, CDemands}
use Rattle.c_demands.specs.Words.{words_of}
use Rattle.c_demands.proofs.Calls.{is_call, is_none, answered, message_tells, message_none}
use Rattle.c_demands.proofs.Numbers.{exact_number}
use Rattle.c_demands.proofs.Lists.{leads}
use Rattle.c_demands.proofs.Unchanged.{unchanged_c}

-- deorasaeng_power_on_ports is power-on, deorasaeng_power_on is power-on with four ports
powers : {w u : List ℕ} {name preferred count r : ℕ} → Powered w name preferred count r u → made.Powered w name preferred count r u
powers (powered κs w w' name preferred count r c) = made.powered w.now w'.now name preferred count r (c tt)

powers_four : {w u : List ℕ} {name preferred r : ℕ} → PoweredFour w name preferred r u → made.Powered w name preferred 4 r u
powers_four (powered_four κs w w' name preferred r c) = made.powered w.now w'.now name preferred 4 r (c tt)

-- a message by its contract, and as the bridge's
message_call : {w payload reply answer w' back told : List ℕ} {port requester r : ℕ} → Handed w port requester payload reply answer r w' back told
    → MessageCall (ports_of w) w w' port requester payload reply back answer told r
message_call (handed κs w w' p p' b b' a a' port requester r f) = f tt

as_handed : {w payload reply answer w' back told : List ℕ} {port requester r : ℕ} (H : Handed w port requester payload reply answer r w' back told) → length answer ≡ message_length
    → made.Handed w port requester payload reply (answered refl (message_call H)) w' back
as_handed (handed κs w w' p p' b b' a a' port requester r f) e =
    made.handed w.now w'.now p.now b.now b'.now port requester (answered refl (f tt)) ((f tt).called e)

private : {w other payload reply answer w' back told other' back₂ told₂ : List ℕ} {p requester r r₂ : ℕ}
    → 2 ≤ p → p ≤ ports_of w → ports_of w ≡ ports_of other → length w ≡ length other → SameTo p w other
    → Handed w p requester payload reply answer r w' back told → Handed other p requester payload reply answer r₂ other' back₂ told₂
    → (r ≡ r₂) × (back ≡ back₂) × (told ≡ told₂)
private {w = w} {answer = answer} low high ports long view H H₂ =
    elim (ℕ_discrete (length answer) message_length) [
      | yes e ↦
          let P = demand_2.private low high ports long view (as_handed H e) (as_handed H₂ e) in
          let t = message_tells refl (message_call H) e in
          let t₂ = message_tells refl (message_call H₂) e in
          (t.0 ∙ ap (λ (a : MessageTold). a.refusal) P.0 ∙ sym t₂.0, P.1, t.1 ∙ ap words_of P.0 ∙ sym t₂.1)
      | no h ↦
          let n = (message_none refl (message_call H) h).refused in
          let n₂ = rw (← ports) at (message_none refl (message_call H₂) h).refused in
          let same = n ∙ sym n₂ in
          (ap (λ (g : Gave). g.number) same, ap (λ (g : Gave). g.written) same, ap (λ (g : Gave). g.told) same)
    ]

-- ---- every list
every : {w u : List ℕ} {name preferred count r : ℕ} → made.Powered w name preferred count r u → (r ≡ 2 → ⊥)
    → (cs : List Exported) (gs : List Gave) (v : List ℕ) → Run Made u cs gs v → Listed (count_of count) name preferred cs gs v
every h n cs gs v run =
    let L = leads (powered_good h n) run in
    let D = (demand_3 h).every n L.ks L.xs v L.run in
    record { ks = L.ks; xs = L.xs; same = L.same; demand_3 = D; unchanged = unchanged_c L.same D }

pub c_demands : CDemands
c_demands = record {
  calls = record { frames = frame_made; takes = take_made; messages = message_made; starts = start_made; quiets = quiet_made; units = unit_made; counts = counts_made; queues = queue_made };
  defined = ((λ κs w name preferred count. tt), (λ κs w name preferred. tt), (λ κs w b a port id. tt), (λ κs w a b port. tt), (λ κs w p b a port requester. tt), (λ κs w a. tt), (λ κs w. tt), (λ κs w a. tt), (λ κs w a port. tt));
  exact = exact_number;
  is_call = is_call;
  is_none = is_none;
  private = private;
  every = λ h. every (powers h);
  none = λ h. (demand_3 (powers h)).none;
  four = λ h. (λ n cs gs v run. rw (count_same {count = 4} (omega arith) (omega arith)) at (every (powers_four h) n cs gs v run), (demand_3 (powers_four h)).none);
}
