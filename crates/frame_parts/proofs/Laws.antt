-- The parts as calls of their own, by the way that the code went. Assumes nothing.
use mathlib.Core.Path.{◌≡◌, refl, sym, ap, ◌∙◌}
use mathlib.Core.Bool.{Bool, false}
use mathlib.Core.List.{List}
use Prim.Native.Nat.{ℕ, ◌-◌, ◌≤◌}
use native.Mathlib.Omega.{arith}
use borrow.Author.Tests.{eq-eqb, ne_eqb}
use lib.ListN.{length}
use Rattle.std.specs.Prelude.{Option, Ok, Err}
use Rattle.identifier.specs.Identifier.{pgn_of, sa_of}
use Rattle.addresses.specs.Table.{name_at}
use Rattle.filter.specs.declared.Asked.{Asked}
use Rattle.queue.specs.declared.Frame.{Frame}
use Rattle.claims.specs.declared.Acted.{Acted as Done}
use Rattle.unit.specs.Model.{Model, model_of, record_length}
use Rattle.unit.specs.Own.{consumes}
use Rattle.checks.specs.declared.refusal.Refusal.{Refusal}
use Rattle.checks.specs.declared.refusal.Refusal.TheVariants.{WrongLength}
use Rattle.checks.specs.Ports.{no_port}
use Rattle.checks.specs.Refusals.{number}
use Rattle.refusals.specs.Refusals.{frame_refusal, length_refusal}
use Rattle.forwarding.specs.Forwarding.{silent, verdict}
use Rattle.forwarding.specs.Steps.{Joining, announced_to, Announcing}
use Rattle.claims.specs.Claims.{frame_of, is_claim, frame_acted}
use Rattle.claims.specs.Steps.{Acting}
use Rattle.record.specs.Steps.{PairAsking}
use Rattle.frame_parts.specs.Parts.{Changing, Answering, arrived, pair_refusal, PartAsking, joined_model, PartJoining, PartActing, PartAnnouncing}
use Rattle.unit.proofs.Own.{own_ports}
use Rattle.claims.proofs.Count.{acted_ports}
use Rattle.checks.proofs.Refusals.{number_positive}
use Rattle.refusals.proofs.Checks.{none, port_in, frame_goes}

-- ---- any part's answer
module _ {A : Type 0} {n : ℕ} {value : A} where
  pub turned_away : (refusal : Refusal) → number refusal ≡ n → Answering n value (Err refusal)
  turned_away refusal e = record { number = e; given = tt }

  pub answered : {given : A} → n ≡ 0 → given ≡ value → Answering n value (Ok given)
  answered z e = record { number = sym z; given = e }

no_zero : (refusal : Refusal) {n : ℕ} → number refusal ≡ n → n ≡ 0 → ⊥
no_zero refusal e z = omega (arith, number_positive refusal, e, z)

-- ---- any part that changes the record
module _ {ports : ℕ} {before : List ℕ} {refusal : ℕ} {then : Model} where
  pub unchanged : (refusal ≡ 0 → ⊥) → Changing ports before before refusal then
  unchanged h = record { long = refl; state = rw (ne_eqb refusal 0 h); count = refl; refused = λ _. refl }

  pub changed : {after : List ℕ} → refusal ≡ 0 → length after ≡ length before → model_of ports after ≡ then → then.rest.own.ports ≡ (model_of ports before).rest.own.ports → Changing ports before after refusal then
  changed {after} z long state same = record {
    long = long;
    state = rw (eq-eqb refusal 0 z) state;
    count = sym (own_ports ports after) ∙ ap (λ (m : Model). m.rest.own.ports) state ∙ same ∙ own_ports ports before;
    refused = λ h. absurd (h z);
  }

-- ---- from one port to another
pub pair_goes : (ports lent from to id len : ℕ) → pair_refusal ports lent from to id len ≡ 0 → (lent ≡ record_length ports) × (1 ≤ from) × (from ≤ ports) × (1 ≤ to) × (to ≤ ports)
unfolding pair_refusal
pair_goes ports lent from to id len e =
    let a = none (no_port ports to) 1 (omega arith) e in
    let t = frame_goes ports lent from id len a.1 in
    let p = port_in ports to a.0 in
    (t.0, t.1, t.2, p.0, p.1)

-- ---- arrive
pub arrival : (ports id : ℕ) (words bytes : List ℕ) {refusal : ℕ} {f : Frame} {consumed claim : Bool} → refusal ≡ 0 → f ≡ frame_of id bytes → consumed ≡ consumes (model_of ports words).rest.own id → claim ≡ is_claim f
    → Answering refusal (arrived (model_of ports words).rest (frame_of id bytes)) (Ok (record { frame = f; consumed = consumed; claim = claim }))
arrival ports id words bytes z g c k = answered z (rw (k, c, g))

-- ---- ask
module _ {ports : ℕ} (words : List ℕ) (from to id : ℕ) where
  module _ (goes : pair_refusal ports (length words) from to id 0 ≡ 0) where
    pub ask_self : from ≡ to → PartAsking ports words from to id (Ok silent)
    unfolding verdict
    ask_self s = record { answer = answered goes (rw (s, eq-eqb (to - 1) (to - 1) refl)); small = omega arith }

    pub ask_pair : {pgn sa : ℕ} {v : Asked} → (from - 1 ≡ to - 1 → ⊥) → pgn ≡ pgn_of id → sa ≡ sa_of id
        → PairAsking ports words (from - 1) (to - 1) pgn (name_at (model_of ports words).rest.table sa) v → PartAsking ports words from to id (Ok v)
    unfolding verdict
    ask_pair h g s P = record { answer = answered goes (rw (ne_eqb (from - 1) (to - 1) h, ← g, ← s, ← P.answer)); small = P.small }

-- ---- join
module _ {ports : ℕ} {words : List ℕ} (from to : ℕ) (f : Frame) where
  module _ (goes : pair_refusal ports (length words) from to f.id f.len ≡ 0) where
    pub join_self : from ≡ to → PartJoining ports words words from to f (Ok false)
    unfolding joined_model
    join_self s = record { answer = answered goes (rw (eq-eqb from to s)); change = changed goes refl (rw (eq-eqb from to s)) (rw (eq-eqb from to s)) }

    pub joined : {after : List ℕ} {w : Bool} → (from ≡ to → ⊥) → length after ≡ length words → Joining ports words after (from - 1) (to - 1) f w → PartJoining ports words after from to f (Ok w)
    unfolding joined_model
    joined h long J = record { answer = answered goes (rw (ne_eqb from to h, J.answer)); change = changed goes long (rw (ne_eqb from to h) J.state) (rw (ne_eqb from to h)) }

-- ---- act
module _ {ports : ℕ} {words : List ℕ} (port : ℕ) (consumed : Bool) (f : Frame) where
  pub acted : {after : List ℕ} {d : Done} → frame_refusal ports (length words) port f.id f.len ≡ 0 → length after ≡ length words → Acting ports words after (frame_acted (model_of ports words).rest port consumed f) d
      → PartActing ports words after port consumed f (Ok d)
  acted goes long A = record { answer = answered goes (rw (← A.event, ← A.sent)); change = changed goes long A.state (acted_ports (model_of ports words).rest port consumed f) }

-- ---- announce
module _ {ports : ℕ} {words : List ℕ} {s : Option Frame} where
  pub announce_short : (length words ≡ record_length ports → ⊥) → PartAnnouncing ports words words s (Err WrongLength)
  unfolding length_refusal
  announce_short h =
      let e : 2 ≡ length_refusal ports (length words) = rw (ne_eqb (length words) (record_length ports) h) in
      record { answer = turned_away WrongLength e; change = unchanged (no_zero WrongLength e) }

  pub announced : {after : List ℕ} {u : ℕ} → length words ≡ record_length ports → length after ≡ length words → Announcing ports words after s u → PartAnnouncing ports words after s (Ok u)
  unfolding length_refusal announced_to
  announced full long A =
      let goes : length_refusal ports (length words) ≡ 0 = rw (eq-eqb (length words) (record_length ports) full) in
      record { answer = answered goes A.answer; change = changed goes long A.state refl }
