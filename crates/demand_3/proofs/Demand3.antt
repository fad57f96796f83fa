-- Demand 3 holds of every list of calls: one call follows the book by its contract, so every list does, and the law of one port is read off the book.
-- Assumes nothing.
use mathlib.Core.Path.{◌≡◌, refl, sym, ap, ◌∙◌}
use mathlib.Core.Bool.{Bool, true, false, not, cond}
use mathlib.Core.List.{List, [], ◌∷◌}
use Prim.Native.Nat.{ℕ}
use native.Mathlib.Omega.{arith}
use borrow.Author.Tests.{ne_eqb, not-false}
use lib.ListN.{length}
use Rattle.delivery.specs.Calls.{answers_of}
use Rattle.delivery.proofs.Calls.{after_append, every_list}
use Rattle.delivery.proofs.Product.{answered, obeys}
use Rattle.unit.specs.Count.{is_count, count_of}
use Rattle.unit.specs.Model.{Model, model_of, record_length}
use Rattle.unit.specs.PowerOn.{not_long, power_on_refusal}
use Rattle.bridge.specs.Calls.{Call, refusal}
use Rattle.unit.specs.PowerOn.{fresh, PoweringOn}
use Rattle.bridge.specs.Calls.{next as next_of}
use Rattle.unit.proofs.Count.{count_bounds, count_kept, count_four}
use Rattle.unit.proofs.Own.{own_ports}
use Rattle.refusals.proofs.Checks.{none, long_in}
use Rattle.made.specs.Made.{Powered}
use Rattle.made.proofs.Made.{powering}
use Rattle.demand_3.specs.Demand3.{Made, frame_made, take_made, message_made, start_made, quiet_made, unit_made, counts_made, Answer, words, next, answer, bridge, model_after, Demand3, EveryList}
use Rattle.demand_3.proofs.OneCall.{Good, simulates}
use Rattle.demand_3.proofs.Named.{number_is, rule_3}
use Rattle.demand_3.proofs.Reasons.{by_reason}
use Rattle.demand_3.proofs.Unchanged.{unchanged, named_so}
use Rattle.demand_3.proofs.AtPort.{Fine, lawful, powered_on}

module _ (ports : ℕ) where
  -- a refused call changes nothing in the book
  refused_same : (m : Model) (k : Call) → (refusal ports (words ports) m.rest k ≡ 0 → ⊥) → next ports m k ≡ m
  unfolding next_of
  refused_same m k n = rw (ne_eqb (refusal ports (words ports) m.rest k) 0 n)

  pub from_book : (name preferred : ℕ) (ks : List Call) (xs : List Answer) (v : List ℕ) → xs ≡ answers_of (next ports) (answer ports) (fresh ports name preferred) ks
      → model_of ports v ≡ model_after ports name preferred ks → Demand3 ports name preferred ks xs v
  from_book name preferred ks xs v said moved = record {
    answers = said;
    state = moved;
    refuses = λ js k x a. rw (answered (next ports) (answer ports) (fresh ports name preferred) said a) (number_is ports (model_after ports name preferred js) k);
    unmoved = λ js k n. after_append (next ports) (fresh ports name preferred) js (k ∷ []) ∙ refused_same (model_after ports name preferred js) k n;
    named = λ js k x a q. rw (answered (next ports) (answer ports) (fresh ports name preferred) said a) (rule_3 ports (model_after ports name preferred js) q k);
    reasoned = λ js k x a q. rw (answered (next ports) (answer ports) (fresh ports name preferred) said a) (by_reason ports (model_after ports name preferred js) q k);
    obeys = obeys (bridge ports) (Fine ports) (lawful ports) (fresh ports name preferred) (powered_on ports name preferred) ks xs said;
    unchanged = unchanged ports name preferred;
    named_so = named_so ports name preferred;
  }

-- ---- power-on
-- it is refused with 2 exactly if the record is not of the count's length
not_two : (b c : Bool) → (◌≡◌ {A = ℕ} (cond b 2 (cond c 27 0)) 2 → ⊥) → b ≡ false
not_two true c n = absurd (n refl)
not_two false c n = refl

pub power_on_goes : (count lent : ℕ) → (power_on_refusal count lent ≡ 2 → ⊥) → lent ≡ record_length (count_of count)
unfolding power_on_refusal
power_on_goes count lent n = long_in (count_of count) lent (not_two (not_long (count_of count) lent) (not (is_count count)) n)

-- 0 is for a count of 2 to 8, 27 for another
power_on_chosen : (count lent : ℕ) → power_on_refusal count lent ≡ 0 → is_count count ≡ true
unfolding power_on_refusal
power_on_chosen count lent e = not-false (is_count count) (none (not (is_count count)) 27 (omega arith) (none (not_long (count_of count) lent) 2 (omega arith) e).1).0

power_on_four : (count lent : ℕ) → power_on_refusal count lent ≡ 27 → is_count count ≡ false
unfolding power_on_refusal
power_on_four count lent e = go (not_long (count_of count) lent) (is_count count) e
  where
    go : (b c : Bool) → ◌≡◌ {A = ℕ} (cond b 2 (cond (not c) 27 0)) 27 → c ≡ false
    go true c e = absurd (omega arith)
    go false true e = absurd (omega arith)
    go false false e = refl

-- power-on leaves a record of its length, with its number of ports
pub good_then : {w u : List ℕ} {name preferred count r : ℕ} → PoweringOn count w u name preferred r → (r ≡ 2 → ⊥) → Good (count_of count) u
good_then {w} {u} {count = count} p n =
    (p.long ∙ power_on_goes count (length w) (λ e. n (p.answer ∙ e)), sym (own_ports (count_of count) u) ∙ ap (λ (m : Model). m.rest.own.ports) (p.state n))

pub powered_good : {w u : List ℕ} {name preferred count r : ℕ} → Powered w name preferred count r u → (r ≡ 2 → ⊥) → Good (count_of count) u
powered_good h = good_then (powering h)

from_power_on : (w u : List ℕ) (name preferred count r : ℕ) → PoweringOn count w u name preferred r → EveryList w u name preferred count r
from_power_on w u name preferred count r p = record {
  calls = record { frames = frame_made; takes = take_made; messages = message_made; starts = start_made; quiets = quiet_made; tells = unit_made; counts = counts_made };
  every = λ z ks xs v run.
      let ports = count_of count in
      let made = p.state z in
      let all = every_list Made (Good ports) (model_of ports) (next ports) (answer ports) (simulates ports) (good_then p z) run in
      from_book ports name preferred ks xs v (rw made at all.said) (rw made at all.moved);
  chosen = λ z.
      let e = power_on_chosen count (length w) (sym p.answer ∙ z) in
      let same = count_kept count e in
      let b = count_bounds count in
      (same, rw same at b.0, rw same at b.1);
  four = λ z. count_four count (power_on_four count (length w) (sym p.answer ∙ z));
  none = p.refused;
}

-- Demand 3, from power-on's own contract.
pub demand_3 : {w u : List ℕ} {name preferred count r : ℕ} → Powered w name preferred count r u → EveryList w u name preferred count r
demand_3 {w} {u} {name} {preferred} {count} {r} h = from_power_on w u name preferred count r (powering h)
