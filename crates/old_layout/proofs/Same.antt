-- Two runs of the same calls, of the old layout and of the real functions, side by side: after every call the old
-- record means what the real one means, without what is searched, and the answers are the same but for the count.
-- Assumes nothing.
use mathlib.Core.Path.{◌≡◌, refl, sym, ap, subst, ◌∙◌}
use mathlib.Core.Bool.{Bool, true, false, not, cond}
use mathlib.Core.List.{List, [], ◌∷◌, ◌++◌, map}
use Prim.Native.Nat.{ℕ, zero, suc}
use native.Mathlib.Omega.{arith}
use borrow.Author.Tests.{eqb-true, eq-eqb, ne_eqb}
use lib.Dec.{eqb}
use lib.ListN.{length, get_or, replicate}
use Rattle.delivery.specs.Calls.{Run, stop, call}
use Rattle.filter.specs.Filter.{clear}
use Rattle.unit.specs.Count.{count_of, ports_of, pair_count}
use Rattle.unit.specs.Model.{Model, unit_of, model_of, record_length}
use Rattle.unit.specs.PowerOn.{not_long, power_on_refusal, fresh}
use Rattle.unit.proofs.Count.{ports_taken}
use Rattle.bridge.specs.Calls.{Call, refusal}
use Rattle.made.specs.Made.{Powered}
use Rattle.made.proofs.Made.{powering, framing, taking, messaging, starting, quieting}
use Rattle.demand_3.specs.Demand3.{Answer, Made, frame_made, take_made, message_made, start_made, quiet_made, unit_made}
use Rattle.demand_3.specs.Demand3.{counts_made}
use Rattle.demand_3.proofs.OneCall.{Good, simulates}
use Rattle.demand_3.proofs.Demand3.{power_on_goes, powered_good}
use Rattle.demand_2.specs.Demand2.{rest_of, Reached, reached}
use Rattle.demand_2.proofs.Pairs.{unit_in_lem}
use Rattle.demand_2.proofs.Kept.{stands}
use Rattle.demand_2.proofs.Probes.{finds}
use Rattle.old_layout.specs.OldLayout.{old_length, old_model_of, as_lent, old_refusal, old_next, old_answer, OldPowered}
use Rattle.old_layout.specs.OldLayout.{OldMade}
use Rattle.old_layout.specs.Same.{uncounted, SameAnswers}
use Rattle.old_layout.proofs.Commands.{forget, forgotten_rest, forgotten}
use Rattle.old_layout.proofs.Calls.{Finds, as_long, refusal_same, next_same, answer_same}
use Rattle.old_layout.proofs.Shrunk.{shrink, length_shrunk, ports_shrunk, model_shrunk}

-- ---- a record that calls led to, and one call more
snoc : {u v w : List ℕ} {k : Call} {x : Answer} {ks : List Call} {xs : List Answer} → Run Made u ks xs v → Made v k x w
    → Run Made u (ks ++ (k ∷ [])) (xs ++ (x ∷ [])) w
snoc stop m = call m stop
snoc (call h run) m = call h (snoc run m)

pub further : {u v : List ℕ} {k : Call} {x : Answer} → Reached u → Made u k x v → Reached v
further (reached P done run) m = reached P done (snoc run m)

-- its pairs are sound, so the search finds what is listed
pub finds_in : {ports : ℕ} {u : List ℕ} → ports_of u ≡ ports → Reached u → Finds (model_of ports u).rest.pairs
finds_in {ports} {u} e reach =
    subst (λ (m : Model). Finds m.rest.pairs) (unit_in_lem u e)
    (λ i pgn. finds (get_or (rest_of u).pairs i clear) ((stands reach).good i).sound pgn)

-- ---- a right length of the old record is a right length, and a wrong one is wrong
pub lent_right : (ports lent : ℕ) → not_long ports (as_lent ports lent) ≡ not (eqb lent (old_length ports))
unfolding as_lent
lent_right ports lent = go (eqb lent (old_length ports))
  where
    go : (b : Bool) → not (eqb (cond b (record_length ports) 0) (record_length ports)) ≡ not b
    go true = rw (eq-eqb (record_length ports) (record_length ports) refl)
    go false = rw (ne_eqb 0 (record_length ports) (λ e. omega arith))

was_long : (ports lent : ℕ) → as_lent ports lent ≡ record_length ports → lent ≡ old_length ports
unfolding as_lent
was_long ports lent e = eqb-true lent (old_length ports) (go (eqb lent (old_length ports)) e)
  where
    go : (b : Bool) → cond b (record_length ports) 0 ≡ record_length ports → b ≡ true
    go true e = refl
    go false e = absurd (omega arith)

-- ---- the two records side by side
pub record Both (ports : ℕ) (old new : List ℕ) : Type 0 where
  pub long : length old ≡ old_length ports
  pub count : ports_of old ≡ ports
  pub good : Good ports new
  pub meant : old_model_of ports old ≡ forgotten (model_of ports new)
  pub led : Reached new

module _ (ports : ℕ) where
  both_next : {old new old' new' : List ℕ} {k : Call} {x y : Answer} → Both ports old new → OldMade old k x old'
      → Made new k y new'
      → Both ports old' new' × (uncounted x ≡ uncounted y)
  both_next {old} {new} {old'} {new'} {k} {x} {y} B o made =
      let m = model_of ports new in
      let step = (simulates ports).step B.good made in
      let here = finds_in B.good.1 B.led in
      let state : old_model_of ports old' ≡ old_next ports (old_length ports) (forgotten m) k =
      rw (B.count, B.long, B.meant) at o.state in
      let answer : x ≡ old_answer ports (old_length ports) (forgotten m) k = rw (B.count, B.long, B.meant) at o.answer in (
        record {
          long = o.long ∙ B.long;
          count = o.count ∙ B.count;
          good = step.good;
          meant = state ∙ next_same ports m here k ∙ ap forgotten (sym step.moved);
          led = further B.led made;
        },
        ap uncounted answer ∙ answer_same ports m here k ∙ ap uncounted (sym step.said),
      )

  pub side_by_side : {old new old' new' : List ℕ} {ks : List Call} {xs ys : List Answer} → Both ports old new
      → Run OldMade old ks xs old' → Run Made new ks ys new'
      → map uncounted xs ≡ map uncounted ys
  side_by_side B stop stop = refl
  side_by_side B (call o run) (call made run') =
      let h = both_next B o made in
      rw (h.1, side_by_side h.0 run run')

-- ---- power-on
fresh_same : (ports name preferred : ℕ) → forgotten (fresh ports name preferred) ≡ fresh ports name preferred
fresh_same ports name preferred = rw (cleared (pair_count ports))
  where
    cleared : (n : ℕ) → map forget (replicate n clear) ≡ replicate n clear
    cleared zero = refl
    cleared (suc n) = ap (λ l. clear ∷ l) (cleared n)

old_ports : (ports : ℕ) (words : List ℕ) → (old_model_of ports words).rest.own.ports ≡ ports_of words
unfolding old_model_of unit_of
old_ports ports words = ports_taken words

pub both_fresh : {w u w' u' : List ℕ} {name preferred count r r' : ℕ} → OldPowered w name preferred count r u
    → (r ≡ 2 → ⊥) → Powered w' name preferred count r' u' → (r' ≡ 2 → ⊥)
    → Both (count_of count) u u'
both_fresh {w} {u} {w'} {u'} {name} {preferred} {count} P done P' done' =
    let ports = count_of count in
    let right = power_on_goes count (as_lent ports (length w)) (λ e. done (P.answer ∙ e)) in
    record {
      long = P.long ∙ was_long ports (length w) right;
      count = sym (old_ports ports u) ∙ ap (λ (m : Model). m.rest.own.ports) (P.state done);
      good = powered_good P' done';
      meant = P.state done ∙ sym (fresh_same ports name preferred) ∙ ap forgotten (sym ((powering P').state done'));
      led = reached P' done' stop;
    }

-- ---- a run of the old layout, for every run of the real functions
module _ (ports : ℕ) where
  unmoved : {u v : List ℕ} {k : Call} {x : Answer} → Good ports u → Made u k x v
      → (refusal ports (record_length ports) (model_of ports u).rest k ≡ 0 → ⊥) → v ≡ u
  unmoved g (frame_made h) n = let l = rw g.1 at (framing h) in (rw g.0 at l.call.refused) n
  unmoved g (take_made h) n = let l = rw g.1 at (taking h) in (rw g.0 at l.call.refused) n
  unmoved g (message_made h) n = let l = rw g.1 at (messaging h) in (rw g.0 at l.call.refused) n
  unmoved g (start_made h) n = let l = rw g.1 at (starting h) in (rw g.0 at l.call.refused) n
  unmoved g (quiet_made h) n = let l = rw g.1 at (quieting h) in (rw g.0 at l.call.refused) n
  unmoved g (unit_made h) n = refl
  unmoved g (counts_made h) n = refl

  -- the contract, of two old records of which the length, the number of ports and the meaning are known
  old_made : {old old' : List ℕ} {k : Call} (m : Model) → (length old ≡ old_length ports) × (ports_of old ≡ ports)
      → (length old' ≡ old_length ports) × (ports_of old' ≡ ports)
      → old_model_of ports old ≡ forgotten m → old_model_of ports old' ≡ old_next ports (old_length ports) (forgotten m) k
      → ((old_refusal ports (old_length ports) (forgotten_rest m.rest) k ≡ 0 → ⊥) → old' ≡ old)
      → OldMade old k (old_answer ports (old_length ports) (forgotten m) k) old'
  old_made m g g' e s r = record {
    long = g'.0 ∙ sym g.0;
    count = g'.1 ∙ sym g.1;
    state = rw (g.1, g.0, e) s;
    answer = rw (g.1, g.0, e);
    refused = rw (g.1, g.0, e) r;
  }

  shrunk_good : (u : List ℕ) → Good ports u
      → (length (shrink ports u) ≡ old_length ports) × (ports_of (shrink ports u) ≡ ports)
  shrunk_good u g = (length_shrunk ports u g.0, ports_shrunk ports u g.0 ∙ g.1)

  old_call : {u v : List ℕ} {k : Call} {y : Answer} → Good ports u → Reached u → Made u k y v
      → OldMade (shrink ports u) k (old_answer ports (old_length ports) (forgotten (model_of ports u)) k) (shrink ports v)
  unfolding old_refusal
  old_call {u} {v} {k} g led made =
      let m = model_of ports u in
      let step = (simulates ports).step g made in
      old_made m (shrunk_good u g) (shrunk_good v step.good) (model_shrunk ports u g.0)
      (model_shrunk ports v step.good.0 ∙ ap forgotten step.moved ∙ sym (next_same ports m (finds_in g.1 led) k))
      (λ n.
      ap (shrink ports)
      (unmoved g made
      (λ z.
      n
      (ap (λ lent. refusal ports lent (forgotten_rest m.rest) k) (as_long ports)
      ∙ refusal_same ports m.rest (record_length ports) k
      ∙ z))))

  old_run : {u v : List ℕ} {ks : List Call} {ys : List Answer} → Good ports u → Reached u → Run Made u ks ys v
      → (xs : List Answer) × Run OldMade (shrink ports u) ks xs (shrink ports v)
  old_run g led stop = ([], stop)
  old_run {u} g led (call {k = k} made run) =
      let rest = old_run ((simulates ports).step g made).good (further led made) run in
      (old_answer ports (old_length ports) (forgotten (model_of ports u)) k ∷ rest.0, call (old_call g led made) rest.1)

module _ (name preferred count : ℕ) where
  old_powered : {w u : List ℕ} {r : ℕ} → Powered w name preferred count r u → (r ≡ 2 → ⊥)
      → OldPowered (shrink (count_of count) u) name preferred count r (shrink (count_of count) u)
  old_powered {w} {u} {r} P done =
      let ports = count_of count in
      let p = powering P in
      let long = (powered_good P done).0 in
      let lent : as_lent ports (length (shrink ports u)) ≡ length w =
      ap (as_lent ports) (length_shrunk ports u long) ∙ as_long ports ∙ sym long ∙ p.long in
      record {
        long = refl;
        answer = p.answer ∙ ap (power_on_refusal count) (sym lent);
        state = λ _. model_shrunk ports u long ∙ ap forgotten (p.state done) ∙ fresh_same ports name preferred;
        refused = λ _. refl;
      }

  same_runs : {w u v w' u' v' : List ℕ} {r r' : ℕ} {ks : List Call} {xs ys : List Answer}
      → OldPowered w name preferred count r u → (r ≡ 2 → ⊥) → Powered w' name preferred count r' u' → (r' ≡ 2 → ⊥)
      → Run OldMade u ks xs v → Run Made u' ks ys v' → map uncounted xs ≡ map uncounted ys
  same_runs P done P' done' run run' = side_by_side (count_of count) (both_fresh P done P' done') run run'

  old_runs : {w' u' v' : List ℕ} {r' : ℕ} {ks : List Call} {ys : List Answer}
      → Powered w' name preferred count r' u' → (r' ≡ 2 → ⊥) → Run Made u' ks ys v'
      → (w : List ℕ) × (u : List ℕ) × (v : List ℕ) × (r : ℕ) × (xs : List Answer)
      × OldPowered w name preferred count r u × (r ≡ 2 → ⊥) × Run OldMade u ks xs v
  old_runs {w'} {u'} {v'} {r'} P done run =
      let ports = count_of count in
      let run' = old_run ports (powered_good P done) (reached P done stop) run in
      (shrink ports u', shrink ports u', shrink ports v', r', run'.0, old_powered P done, done, run'.1)

  pub same_answers : SameAnswers name preferred count
  same_answers = record { same = same_runs; runs = old_runs; lent = lent_right }
