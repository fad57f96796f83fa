-- Every list of calls from power-on keeps the pairs sound (no PGN twice, no more than 32, nothing but PGNs): no call but a command of a message changes a pair, and each command keeps it. Assumes nothing.
use Rattle.std.specs.Prelude.{None}
use mathlib.Core.Path.{◌≡◌, refl, sym, ap, subst, ◌∙◌}
use mathlib.Core.Bool.{Bool, true, false, cond}
use mathlib.Core.List.{List, [], ◌∷◌}
use Prim.Native.Nat.{ℕ, zero, suc, ◌+◌, ◌-◌, ◌%◌, ◌≤◌}
use native.Mathlib.Decide.{dec_lt}
use native.Mathlib.Omega.{arith}
use borrow.Author.Tests.{eqb-true}
use lib.ListN.{length, get_or, take, drop, replicate, length-append, length-drop, length-replicate}
use lib.Seq.{length-take-le}
use lib.Dec.{eqb, ltb}
use Rattle.identifier.specs.Identifier.{is_pgn, sa_of}
use Rattle.delivery.specs.Calls.{after_calls}
use Rattle.filter.specs.Filter.{Filter, clear}
use Rattle.entries.specs.Entries.{entries_of, every, well_formed}
use Rattle.filter_commands.specs.Changes.{entry_of, Sound}
use Rattle.checks.proofs.Tests.{both}
use Rattle.filter_commands.proofs.Laws.{clear_sound, added_sound, deleted_sound, created_sound, named_sound, added_pgns, deleted_pgns, created_pgns, named_pgns}
use Rattle.queue.specs.declared.Frame.{Frame}
use Rattle.network_message.specs.Asked.{Asked, Refused, Request, WithEntries, Clear, AddressList, Parameter, Reset, PairParameter, PairReset}
use Rattle.network_message.specs.Decoding.{between, decoded}
use Rattle.network_message.specs.Commands.{Ports, Holding, Good}
use Rattle.network_message.proofs.Decoding.{decoded_good}
use Rattle.filter_commands.specs.declared.pairs.Change.{Change}
use Rattle.filter_commands.specs.declared.pairs.Change.TheVariants.{Adds, Deletes, Creates, Names}
use Rattle.unit.specs.Ports.{each}
use Rattle.unit.specs.Count.{count_of, ports_of, pair_count}
use Rattle.unit.specs.Model.{Rest, Model, model_of, record_length}
use Rattle.unit.specs.Own.{is_own, consumes}
use Rattle.bridge.specs.Calls.{frame_of}
use Rattle.claims.specs.Claims.{held_under, Acted, is_claim, is_request_to_unit, contested, claim_acted, frame_acted, started}
use Rattle.list_commands.specs.Commands.{first_pair, change_at, change_named, names, list_refusal, commanded}
use Rattle.filter_commands.specs.Pairs.{change_of}
use Rattle.message_answers.specs.Messages.{performed_by}
use Rattle.bridge.specs.Calls.{silent_reply, messaged}
use Rattle.refusals.specs.Refusals.{message_refusal}
use Rattle.bridge.specs.Calls.{Call, FrameIn, TakeOut, Message, Start, Quiet, ReadUnit, ReadCounts, refusal, rest_after, performed, next}
use Rattle.unit.specs.PowerOn.{fresh}
use Rattle.unit.proofs.Count.{row_below}
use Rattle.unit.proofs.Own.{own_ports}
use Rattle.unit.proofs.Ports.{length_each}
use Rattle.refusals.proofs.Checks.{message_goes}
use Rattle.delivery.proofs.Calls.{every_list}
use Rattle.made.proofs.Made.{powering}
use Rattle.demand_3.specs.Demand3.{Made, answer, next as next_in}
use Rattle.demand_3.proofs.OneCall.{Good as Long, simulates}
use Rattle.demand_3.proofs.Demand3.{power_on_goes}
use Rattle.demand_2.specs.Demand2.{rest_of, Reached, reached}
use Rattle.demand_2.proofs.Pairs.{unit_in_lem, changed_at, else_still}

-- ---- what is kept of one pair
pub record Good-pair (f : Filter) : Type 0 where
  pub sound : Sound f
  pub pgns : every is_pgn f.entries ≡ true

clear_good : Good-pair clear
unfolding every
clear_good = record { sound = clear_sound; pgns = refl }

changed_good : (change : Change) (xs : List ℕ) → every is_pgn xs ≡ true → (f : Filter) → Good-pair f → Good-pair (change_of change xs f)
unfolding change_of
changed_good Adds xs h f G = record { sound = added_sound G.sound xs; pgns = added_pgns f xs G.pgns h }
changed_good Deletes xs h f G = record { sound = deleted_sound G.sound xs; pgns = deleted_pgns f xs G.pgns }
changed_good (Creates passing) xs h f G = record { sound = created_sound G.sound passing xs; pgns = created_pgns f xs G.pgns passing h }
changed_good (Names name mask) xs h f G = record { sound = named_sound G.sound (entry_of xs name mask); pgns = named_pgns f xs G.pgns (entry_of xs name mask) }

-- ---- of all pairs, and that there is one for each two ports
record All (ports : ℕ) (pairs : List Filter) : Type 0 where
  pub long : length pairs ≡ pair_count ports
  pub each_good : (i : ℕ) → Good-pair (get_or pairs i clear)

fresh_good : (n i : ℕ) → Good-pair (get_or (replicate n clear) i clear)
fresh_good zero i = clear_good
fresh_good (suc n) zero = clear_good
fresh_good (suc n) (suc i) = fresh_good n i

fresh_all : (ports : ℕ) → All ports (replicate (pair_count ports) clear)
fresh_all ports = record { long = simp length-replicate; each_good = fresh_good (pair_count ports) }

module _ (ports : ℕ) (pairs : List Filter) (all : All ports pairs) where
  named_length : (change : Filter → Filter) (from to : ℕ) → 1 ≤ from → from ≤ ports → length (change_named ports (ports - 1) change from to pairs) ≡ pair_count ports
  unfolding change_named
  named_length change from to low high =
      let n = first_pair ports from in
      let l : n ≤ length pairs = rw all.long (row_below {p = from - 1} (omega arith)) in
      omega (
        arith,
        length-append (take n pairs) (each (change_at change from to) (ports - 1) (drop n pairs)),
        length-take-le n pairs l,
        length_each (change_at change from to) (ports - 1) (drop n pairs),
        length-drop n pairs,
        all.long,
      )

  named_good : (change : Filter → Filter) → ((f : Filter) → Good-pair f → Good-pair (change f)) → (from to : ℕ) → 1 ≤ from → from ≤ ports → (i : ℕ) → Good-pair (get_or (change_named ports (ports - 1) change from to pairs) i clear)
  named_good change keeps from to low high i =
      elim (dec_lt i (first_pair ports from)) [
        | yes l ↦ rw (else_still ports from to change pairs all.long low high i (λ k s e. omega arith)) (all.each_good i)
        | no l ↦ near (i - first_pair ports from) (omega arith)
      ]
    where
      here : (k : ℕ) → Good-pair (get_or pairs (first_pair ports from + k) clear) → (t : Bool) → Good-pair (cond t (change (get_or pairs (first_pair ports from + k) clear)) (get_or pairs (first_pair ports from + k) clear))
      here k G true = keeps (get_or pairs (first_pair ports from + k) clear) G
      here k G false = G

      near : (k : ℕ) → i ≡ first_pair ports from + k → Good-pair (get_or (change_named ports (ports - 1) change from to pairs) i clear)
      near k e =
          elim (dec_lt k (ports - 1)) [
            | yes s ↦ rw (e, changed_at ports from to change pairs all.long low high k s) (here k (all.each_good (first_pair ports from + k)) (names from to k))
            | no s ↦ rw (else_still ports from to change pairs all.long low high i (λ j t h. omega arith)) (all.each_good i)
          ]

  changed_all : (change : Filter → Filter) → ((f : Filter) → Good-pair f → Good-pair (change f)) → (from to : ℕ) → Ports ports from to → All ports (change_named ports (ports - 1) change from to pairs)
  changed_all change keeps from to ps = record { long = named_length change from to ps.least ps.most; each_good = named_good change keeps from to ps.least ps.most }

  commanded_all : (change : Change) (xs : List ℕ) → every is_pgn xs ≡ true → (from to : ℕ) → Ports ports from to → All ports (commanded ports change xs from to pairs)
  unfolding commanded
  commanded_all change xs h from to ps = go (eqb (list_refusal ports change xs from to pairs) 0)
    where
      go : (t : Bool) → All ports (cond t (change_named ports (ports - 1) (change_of change xs) from to pairs) pairs)
      go true = changed_all (change_of change xs) (changed_good change xs h) from to ps
      go false = all

-- ---- of a message
entries_pgns : {start end : ℕ} {payload : List ℕ} → Holding start end payload → every is_pgn (entries_of (between start end payload)) ≡ true
unfolding well_formed
entries_pgns {start} {end} {payload} H =
    (both (eqb (length (between start end payload) % 3) 0) (every is_pgn (entries_of (between start end payload))) H.formed).1

module _ (ports : ℕ) (rest : Rest) (all : All ports rest.pairs) where
  performed_all : (requester : ℕ) (payload : List ℕ) (c : Asked) → Good ports payload c → All ports (performed_by ports rest requester payload c).pairs
  unfolding performed_by every entries_of
  performed_all requester payload (Refused number entry) g = all
  performed_all requester payload (Request from to) g = all
  performed_all requester payload (WithEntries change from to start end) g = commanded_all ports rest.pairs all change (entries_of (between start end payload)) (entries_pgns g.1) from to g.0
  performed_all requester payload (Clear from to) g = changed_all ports rest.pairs all (λ _. clear) (λ _ _. clear_good) from to g
  performed_all requester payload (AddressList port) g = all
  performed_all requester payload (Parameter parameter) g = all
  performed_all requester payload Reset g = all
  performed_all requester payload (PairParameter from to parameter) g = all
  performed_all requester payload (PairReset from to) g = all

  messaged_all : (lent lentReply port requester : ℕ) (payload : List ℕ) → All ports (messaged ports lent lentReply rest port requester payload).pairs
  unfolding messaged
  messaged_all lent lentReply port requester payload = go (eqb n 0) refl
    where
      n : ℕ
      n = message_refusal ports lent lentReply rest port requester (length payload)

      go : (t : Bool) → eqb n 0 ≡ t → All ports (cond t (performed_by ports rest requester payload (decoded ports port payload)) (silent_reply n rest.pairs)).pairs
      go true z = performed_all requester payload (decoded ports port payload) (decoded_good ports port payload (message_goes ports lent lentReply rest port requester (length payload) (eqb-true n 0 z)).2)
      go false z = all

-- ---- of every call
-- no claim, request or Start changes a pair
acted_pairs : (rest : Rest) (b : Bool) (x y : Acted) → x.rest.pairs ≡ rest.pairs → y.rest.pairs ≡ rest.pairs → (cond b x y).rest.pairs ≡ rest.pairs
acted_pairs rest true x y p q = p
acted_pairs rest false x y p q = q

claimed_pairs : (rest : Rest) (port : ℕ) (f : Frame) → (claim_acted rest port f).rest.pairs ≡ rest.pairs
unfolding claim_acted contested
claimed_pairs rest port f =
    acted_pairs rest (eqb f.bytes rest.own.name) _ _ refl
    (acted_pairs rest (eqb (sa_of f.id) 254) _ _ refl
    (acted_pairs rest (is_own rest.own (sa_of f.id)) _ _ (acted_pairs rest (ltb rest.own.name f.bytes) _ _ refl refl) refl))

frame_pairs : (rest : Rest) (port : ℕ) (consumed : Bool) (f : Frame) → (frame_acted rest port consumed f).rest.pairs ≡ rest.pairs
unfolding frame_acted
frame_pairs rest port consumed f =
    acted_pairs rest (is_claim f) _ _ (claimed_pairs rest port f) (acted_pairs rest (is_request_to_unit f consumed) _ _ refl refl)

started_pairs : (rest : Rest) → (started rest).rest.pairs ≡ rest.pairs
unfolding started
started_pairs rest = acted_pairs rest (held_under rest.own.name (get_or rest.table rest.own.preferred None)) _ _ refl refl

module _ (ports lent : ℕ) where
  rest_all : (rest : Rest) (k : Call) → All ports rest.pairs → All ports (rest_after ports lent rest k).pairs
  unfolding rest_after
  rest_all rest (FrameIn port id bytes) A = rw (frame_pairs rest port (consumes rest.own id) (frame_of id bytes)) A
  rest_all rest (TakeOut port) A = A
  rest_all rest (Message port requester payload lentReply) A = messaged_all ports rest A lent lentReply port requester payload
  rest_all rest Start A = rw (started_pairs rest) A
  rest_all rest Quiet A = A
  rest_all rest ReadUnit A = A
  rest_all rest (ReadCounts port) A = A

  next_all : (m : Model) (k : Call) → All ports m.rest.pairs → All ports (next ports lent m k).rest.pairs
  unfolding next performed
  next_all m k A = go (eqb (refusal ports lent m.rest k) 0)
    where
      go : (t : Bool) → All ports (cond t (performed ports lent m k) m).rest.pairs
      go true = rest_all m.rest k A
      go false = A

  calls_all : (m : Model) (ks : List Call) → All ports m.rest.pairs → All ports (after_calls (next ports lent) m ks).rest.pairs
  calls_all m [] A = A
  calls_all m (k ∷ ks) A = calls_all (next ports lent m k) ks (next_all m k A)

-- ---- a record that a list of calls led to
pub record Standing (words : List ℕ) : Type 0 where
  pub long : length words ≡ record_length (ports_of words)
  pub good : (i : ℕ) → Good-pair (get_or (rest_of words).pairs i clear)

-- the model of the calls is the record's, with the number of ports of power-on
standing : {words : List ℕ} {ports : ℕ} {m : Model} → (length words ≡ record_length ports) × (ports_of words ≡ ports) → model_of ports words ≡ m → All ports m.rest.pairs → Standing words
standing {words} g e A = record { long = rw g.1 g.0; good = λ i. subst (λ (w : Model). Good-pair (get_or w.rest.pairs i clear)) (sym (unit_in_lem words g.1 ∙ e)) (A.each_good i) }

pub stands : {words : List ℕ} → Reached words → Standing words
stands (reached {w = w} {u = u} {name = name} {preferred = preferred} {count = count} {ks = ks} P done run) =
    let p = powering P in
    let ports = count_of count in
    let good : Long (count_of count) u = (p.long ∙ power_on_goes count (length w) (λ e. done (p.answer ∙ e)), sym (own_ports ports u) ∙ ap (λ (m : Model). m.rest.own.ports) (p.state done)) in
    let all = every_list Made (Long ports) (model_of ports) (next_in ports) (answer ports) (simulates ports) good run in
    standing all.good (all.moved ∙ ap (λ (m : Model). after_calls (next_in ports) m ks) (p.state done)) (calls_all ports (record_length ports) (fresh ports name preferred) ks (fresh_all ports))
