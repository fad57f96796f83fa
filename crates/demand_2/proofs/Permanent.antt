-- A frame of a permanent PGN, at every port but its arrival port: accepted or lost, whatever the lists hold. Assumes nothing.
use Rattle.bridge.specs.Told.{FrameTold}
use mathlib.Core.Path.{◌≡◌, refl, sym, ap, ◌∙◌}
use mathlib.Core.Logic.{◌⊎◌, ⊎_elim}
use mathlib.Core.Bool.{Bool, true, false, cond}
use mathlib.Core.List.{List}
use Prim.Native.Nat.{ℕ, zero, suc, ◌+◌, ◌-◌, ◌≤◌}
use native.Mathlib.Omega.{arith}
use borrow.Author.Tests.{eqb-true, eqb-false, ne_eqb}
use lib.Dec.{eqb}
use lib.ListN.{length}
use Rattle.identifier.specs.Identifier.{pgn_of}
use Rattle.filter.specs.declared.Reason.{Reason}
use Rattle.filter.specs.declared.Asked.{Asked}
use Rattle.filter.specs.Filter.{is_permanent, asked}
use Rattle.unit.specs.Ports.{total}
use Rattle.unit.specs.Count.{ports_of}
use Rattle.unit.specs.Model.{Model, Rest}
use Rattle.unit.specs.Own.{consumes}
use Rattle.forwarding.specs.Forwarding.{silent, verdict}
use Rattle.refusals.specs.Refusals.{frame_refusal}
use Rattle.bridge.specs.Calls.{frame_of, offered, frame_passed, frame_refused, frame_answer, Framing}
use Rattle.checks.proofs.Ports.{port_bounds}
use Rattle.refusals.proofs.Checks.{frame_goes}
use Rattle.bridge.proofs.Laws.{accepted_at, lost_at_lem}
use Rattle.demand_2.specs.Matching.{Permanent}
use Rattle.demand_2.specs.Demand2.{unit_in, Crossing}

permanent : {pgn : ℕ} → (pgn ≡ 60928) ⊎ (pgn ≡ 59904) → is_permanent pgn ≡ true
unfolding is_permanent
permanent which = ⊎_elim (λ e. rw e refl) (λ e. rw e refl) which

-- what is answered for a port: the frame crosses, and no entry is compared
abbrev across : Asked
across = record { reason = Reason.Permanent; compared = 0 }

module _ (ports : ℕ) (rest : Rest) (p id : ℕ) (always : is_permanent (pgn_of id) ≡ true) (free : consumes rest.own id ≡ false) where
  offered_is : (q : ℕ) → offered ports rest p id q ≡ cond (eqb p q) silent across
  unfolding offered verdict asked
  offered_is q = rw (free, always)

  none_compared : (n : ℕ) → total (λ q. (offered ports rest p id q).compared) n ≡ 0
  unfolding total
  none_compared zero = refl
  none_compared (suc n) = rw (none_compared n, offered_is n) (either (eqb p n))
    where
      either : (b : Bool) → 0 + (cond b silent across).compared ≡ 0
      either true = refl
      either false = refl

module _ {words bytes after : List ℕ} {port id : ℕ} {r : FrameTold} (F : Framing (ports_of words) words after port id bytes r) (done : r.refusal ≡ 0) (free : r.consumed ≡ false) (which : Permanent id) where
  pub crossing : Crossing words port r
  unfolding frame_answer frame_passed
  crossing = go (eqb (frame_refusal (ports_of words) (length words) port id (length bytes)) 0) refl
    where
      m : Model
      m = unit_in words

      go : (t : Bool) → eqb (frame_refusal (ports_of words) (length words) port id (length bytes)) 0 ≡ t → Crossing words port r
      go true e =
          let a : r ≡ frame_passed (ports_of words) m port (frame_of id bytes) = rw e at F.answer in
          let g = frame_goes (ports_of words) (length words) port id (length bytes) (eqb-true _ 0 e) in
          let not_own : consumes m.rest.own id ≡ false = sym (ap (λ (x : FrameTold). x.consumed) a) ∙ free in
          let at = offered_is (ports_of words) m.rest (port - 1) id (permanent which) not_own in
          let apart : (q : ℕ) → 1 ≤ q → (port ≡ q → ⊥) → port - 1 ≡ q - 1 → ⊥ = λ q least ne same. ne (omega (arith, same, least, g.1)) in
          record {
            accepted = λ q is ne.
                let b = port_bounds (ports_of words) q is in
                rw a (accepted_at (ports_of words) m port (frame_of id bytes) (q - 1) (omega (arith, b.0, b.1)) ∙ rw (at (q - 1), ne_eqb (port - 1) (q - 1) (apart q b.0 ne)));
            lost = λ q is ne.
                let b = port_bounds (ports_of words) q is in
                rw a (lost_at_lem (ports_of words) m port (frame_of id bytes) (q - 1) (omega (arith, b.0, b.1)) ∙ rw (at (q - 1), ne_eqb (port - 1) (q - 1) (apart q b.0 ne)));
            compared = rw a (none_compared (ports_of words) m.rest (port - 1) id (permanent which) not_own (ports_of words));
          }
      go false e =
          let a : r ≡ frame_refused (frame_refusal (ports_of words) (length words) port id (length bytes)) = rw e at F.answer in
          absurd (eqb-false _ 0 e (sym (ap (λ (x : FrameTold). x.refusal) a) ∙ done))
