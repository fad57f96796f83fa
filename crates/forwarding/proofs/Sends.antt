-- A frame at one port, by the way that the code went. Assumes nothing.
use mathlib.Core.Path.{◌≡◌, refl, sym, ap, ◌∙◌}
use mathlib.Core.Bool.{Bool, true, false, not, cond, ◌&&◌}
use mathlib.Core.List.{List}
use mathlib.Core.Logic.{inl, inr, ⊎_elim}
use Prim.Native.Nat.{ℕ, ◌+◌, ◌-◌, ◌*◌, ◌^◌, ◌≤◌, ◌<◌}
use native.Mathlib.Nat.{le_trans, mul-le-mul_left, mul-le-mul_right}
use native.Mathlib.Omega.{arith}
use borrow.Author.Tests.{eq-eqb, ne_eqb, lt-ltb, le-ltb}
use lib.Seq.{set-get_or}
use Rattle.filter.specs.declared.Asked.{Asked}
use Rattle.filter.specs.Filter.{crosses, reason_number, block_size as filter_length}
use Rattle.sorted_list.specs.SortedList.{most_probes}
use Rattle.name_entries.specs.NameEntries.{most_names}
use Rattle.queue.specs.declared.Frame.{Frame}
use Rattle.queue.specs.Queue.{size, idle, joined}
use Rattle.losses.specs.Losses.{one_more}
use Rattle.delivery.specs.Row.{room}
use Rattle.unit.specs.Count.{pair_count}
use Rattle.unit.specs.Model.{Rest, Model, model_of, queue_on, with_queue, with_losses, pairs_from, pair_at, general_at}
use Rattle.unit.proofs.Count.{pair_below}
use Rattle.forwarding.specs.declared.Came.{Came}
use Rattle.forwarding.specs.declared.Offered.{Offered}
use Rattle.forwarding.specs.Forwarding.{silent, verdict, accepts, loses, counted_at, lost_from, lost_own}
use Rattle.identifier.specs.Identifier.{sa_of}
use Rattle.addresses.specs.Table.{name_at}
use Rattle.record.specs.Steps.{PairAsking, RowJoining, LossesChanging}
use Rattle.forwarding.specs.Steps.{Losing, Joining, came_of, joins, misses, Sending, Standing, OwnJoining}

queue_same : (m : Model) (q : ℕ) → m ≡ with_queue m q (queue_on m q)
queue_same m q = rw (set-get_or m.queues q idle)

-- a reason at its place fits a word
pub told_small : (weight d : ℕ) → weight ≤ 2 ^ 32 → d < 16 → weight * d ≤ 2 ^ 36
told_small weight d h l = le_trans (mul-le-mul_right d h) (mul-le-mul_left (2 ^ 32) (below l))
  where
    below : d < 16 → d ≤ 16
    below l = omega arith

verdict_is : {ports : ℕ} {before : List ℕ} {p q pgn : ℕ} (sa : ℕ) {v : Asked} → (p ≡ q → ⊥) → PairAsking ports before p q pgn (name_at (model_of ports before).rest.table sa) v → verdict ports (model_of ports before).rest p pgn sa q ≡ v
unfolding verdict
verdict_is {ports} {before} {p} {q} sa ne P = rw (ne_eqb p q ne) (sym P.answer)

-- the arrival port is not asked
pub verdict_home : (ports : ℕ) (rest : Rest) (p pgn sa : ℕ) → verdict ports rest p pgn sa p ≡ silent
unfolding verdict
verdict_home ports rest p pgn sa = rw (eq-eqb p p refl) refl

-- one more in the counter in place i of a model
abbrev more : ℕ → Model → Model
more i m = with_losses m (counted_at i m.seen.losses)

abbrev both : ℕ → ℕ → ℕ → Model → Model
both ports p q m = with_losses m (lost_from ports p q m.seen.losses)

-- a frame that waits was joined and nothing is counted
abbrev came : ℕ → Model → ℕ → ℕ → Frame → Bool → Model
came ports m p q f b = with_losses (with_queue m q (joined (queue_on m q) f)) (cond b m.seen.losses (lost_from ports p q m.seen.losses))

module _ {ports : ℕ} {before after : List ℕ} {p q : ℕ} {f : Frame} {w : Bool} where
  pub joined_waits : w ≡ true → RowJoining ports before after q f w → Joining ports before after p q f true
  joined_waits h R = record { answer = sym h ∙ R.answer; state = R.state ∙ ap (came ports (model_of ports before) p q f) (sym h ∙ R.answer) }

  pub joined_lost : {end : List ℕ} → w ≡ false → RowJoining ports before after q f w → Losing ports after end p q → Joining ports before end p q f false
  joined_lost h R L = record {
    answer = sym h ∙ R.answer;
    state = L.state ∙ ap (both ports p q) R.state ∙ ap (came ports (model_of ports before) p q f) (sym h ∙ R.answer);
  }

-- counted in two places, the second after the first
pub lost_both : {ports : ℕ} {before between after : List ℕ} {p q : ℕ} → LossesChanging ports before between (pair_at ports p q) one_more → LossesChanging ports between after (general_at ports) one_more → Losing ports before after p q
lost_both {ports} {p = p} {q = q} C D = record { state = D.state ∙ ap (more (general_at ports)) C.state }

pub joins_is : (v : Asked) (row : List Frame) → joins (came_of v row) ≡ accepts v row
joins_is v row = go (crosses v.reason) (room size row)
  where
    go : (c w : Bool) → joins (cond c (cond w Came.Joined Came.Lost) Came.Stopped) ≡ (c && w)
    go true true = refl
    go true false = refl
    go false w = refl

pub misses_is : (v : Asked) (row : List Frame) → misses (came_of v row) ≡ loses v row
misses_is v row = go (crosses v.reason) (room size row)
  where
    go : (c w : Bool) → misses (cond c (cond w Came.Joined Came.Lost) Came.Stopped) ≡ (c && not w)
    go true true = refl
    go true false = refl
    go false w = refl

-- what a pair answered, done at the port that it leads to
module _ {ports : ℕ} {before : List ℕ} {q : ℕ} {f : Frame} {v : Asked} {told : ℕ} (T : told ≡ reason_number v.reason) (small : v.compared ≤ most_probes + most_names) where
  pub carried_stopped : crosses v.reason ≡ false → Sending ports before before v q f (record { came = Came.Stopped; reason = told; compared = v.compared })
  carried_stopped e = record { answer = rw (e, T); state = rw e (queue_same (model_of ports before) q); small = small }

  pub carried : {after : List ℕ} {w : Bool} (b : Bool) → crosses v.reason ≡ true → w ≡ b → RowJoining ports before after q f w
      → Sending ports before after v q f (record { came = cond b Came.Joined Came.Lost; reason = told; compared = v.compared })
  carried b e h J = record { answer = rw (e, ← J.answer, h, T); state = rw e J.state; small = small }

module _ {ports : ℕ} {before : List ℕ} {p q : ℕ} (pgn : ℕ) {f : Frame} where
  -- the arrival port
  pub send_self : p ≡ q → Sending ports before before (verdict ports (model_of ports before).rest p pgn (sa_of f.id) q) q f (record { came = Came.Stopped; reason = 0; compared = 0 })
  unfolding verdict
  send_self e = record {
    answer = rw (eq-eqb p q e);
    state = rw (eq-eqb p q e) (queue_same (model_of ports before) q);
    small = omega arith;
  }

  -- another, by what its pair answered
  pub sent_by : {after : List ℕ} {v : Asked} {r : Offered} → (p ≡ q → ⊥) → PairAsking ports before p q pgn (name_at (model_of ports before).rest.table (sa_of f.id)) v
      → Sending ports before after v q f r → Sending ports before after (verdict ports (model_of ports before).rest p pgn (sa_of f.id) q) q f r
  sent_by ne P S = rw (verdict_is (sa_of f.id) ne P) S

-- ---- where a frame from port p stands: at port n, the filter of whose pair begins at a word
module _ {ports p at n : ℕ} (port : p < ports) (L : Standing ports p at n) where
  pub stand_self : p ≡ n → Standing ports p at (n + 1)
  stand_self e = inr (omega arith, ⊎_elim (λ l. omega (arith, l.1)) (λ l. omega (arith, l.0)) L)

  module _ (other : p ≡ n → ⊥) where
    pub stand_pair : at ≡ pairs_from ports + filter_length * pair_at ports p n
    stand_pair =
        ⊎_elim
        (λ l. let near : n < p = omega (arith, l.0) in rw (lt-ltb n p near) l.1)
        (λ l. let far : p ≤ n = omega (arith, l.0) in rw (le-ltb n p far) (omega (arith, l.0, l.1)))
        L

    pub stand_count : n < ports → pair_at ports p n < pair_count ports
    stand_count more =
        ⊎_elim
        (λ l. let near : n < p = omega (arith, l.0) in rw (lt-ltb n p near) (pair_below {ports = ports} {p = p} {k = n} port (omega arith)))
        (λ l. let far : p ≤ n = omega (arith, l.0) in rw (le-ltb n p far) (pair_below {ports = ports} {p = p} {k = n - 1} port (omega (arith, l.0))))
        L

    pub stand_next : Standing ports p (at + filter_length) (n + 1)
    stand_next = ⊎_elim (λ l. inl (omega (arith, l.0), omega (arith, l.1))) (λ l. inr (omega (arith, l.0), omega (arith, l.1))) L

-- the unit's own frame
abbrev own_came : ℕ → Model → ℕ → Frame → Bool → Model
own_came ports m q f b = with_losses (with_queue m q (joined (queue_on m q) f)) (cond (not b) (lost_own ports m.seen.losses) m.seen.losses)

module _ {ports : ℕ} {before after : List ℕ} {q bit : ℕ} {f : Frame} {w : Bool} where
  pub own_waits : w ≡ true → RowJoining ports before after q f w → OwnJoining ports before after q bit f 0
  own_waits h R = record { answer = ap (λ b. cond (not b) bit 0) (sym h ∙ R.answer); state = R.state ∙ ap (own_came ports (model_of ports before) q f) (sym h ∙ R.answer) }

  pub own_lost_lem : {end : List ℕ} → w ≡ false → RowJoining ports before after q f w → LossesChanging ports after end (general_at ports) one_more → OwnJoining ports before end q bit f bit
  own_lost_lem h R D = record { answer = ap (λ b. cond (not b) bit 0) (sym h ∙ R.answer); state = D.state ∙ ap (more (general_at ports)) R.state ∙ ap (own_came ports (model_of ports before) q f) (sym h ∙ R.answer) }
