-- The reason that an answer tells for each port is the pair's, by its mode, its list and its NAME entries. Assumes nothing.
use Rattle.bridge.specs.Told.{FrameTold}
use mathlib.Core.Path.{◌≡◌, refl, sym, ap, ◌∙◌}
use mathlib.Core.Bool.{Bool, true, false, cond, ◌||◌}
use mathlib.Core.List.{List}
use Rattle.std.specs.Prelude.{Option}
use Prim.Native.Nat.{ℕ, ◌+◌, ◌-◌, ◌^◌, ◌<◌, ◌≤◌}
use native.Mathlib.Nat.{zero-div}
use native.Mathlib.Omega.{arith}
use borrow.Author.Tests.{eqb-true, eqb-false, ne_eqb}
use lib.Dec.{eqb}
use lib.ListN.{length}
use Rattle.checks.proofs.Ports.{port_bounds}
use Rattle.identifier.specs.Identifier.{pgn_of}
use Rattle.sorted_list.specs.SortedList.{halved}
use Rattle.filter.specs.declared.Reason.{Reason}
use Rattle.filter.specs.declared.Asked.{Asked}
use Rattle.name_entries.specs.NameEntries.{matched_by, place_of}
use Rattle.filter.specs.Filter.{Mode, cleared, block, pass, Filter, is_permanent, reason_of, reason_number, asked}
use Rattle.filter.proofs.Reasons.{reason_below}
use Rattle.unit.specs.Ports.{digits, digit_at}
use Rattle.unit.specs.Count.{ports_of}
use Rattle.unit.specs.Model.{Model, Rest, pair_at}
use Rattle.unit.specs.Own.{consumes}
use Rattle.forwarding.specs.Forwarding.{verdict}
use Rattle.refusals.specs.Refusals.{frame_refusal}
use Rattle.bridge.specs.Calls.{frame_of, offered, frame_passed, frame_refused, frame_answer, Framing}
use Rattle.refusals.proofs.Checks.{frame_goes}
use Rattle.unit.proofs.Ports.{digit_at_lem, digit_past, digits_none}
use Rattle.bridge.proofs.Laws.{not_offered_back}
use Rattle.demand_2.specs.Demand2.{unit_in, pair_on, list_reason, pair_reason, Tells, as_listed, as_not_listed, Reasons, Reached}
use Rattle.filter_commands.specs.Changes.{Sound}
use Rattle.demand_2.proofs.Kept.{stands}
use Rattle.demand_2.proofs.Probes.{finds}
use Rattle.demand_2.proofs.Matching.{name, here, listed_here, not_listed_here}

by_mode : (m : Mode) (here : Bool) → reason_number (reason_of m here) ≡ list_reason m here
unfolding reason_of
by_mode cleared here = refl
by_mode block true = refl
by_mode block false = refl
by_mode pass true = refl
by_mode pass false = refl

of_pair : (f : Filter) (pgn : ℕ) (sender : Option ℕ)
    → reason_number (asked f pgn sender).reason ≡ pair_reason f pgn ((halved pgn f.sorted).found || matched_by pgn sender f.named)
unfolding asked is_permanent
of_pair f pgn sender = go (eqb pgn 60928 || eqb pgn 59904)
  where
    found : Bool
    found = (halved pgn f.sorted).found || matched_by pgn sender f.named

    compared : ℕ
    compared = (halved pgn f.sorted).probes + cond (halved pgn f.sorted).found 0 (place_of pgn sender f.named)

    go : (b : Bool) → reason_number (cond {A = Asked} b (record { reason = Reason.Permanent; compared = 0 }) (record { reason = reason_of f.mode found; compared = compared })).reason ≡ cond b 1 (list_reason f.mode found)
    go true = refl
    go false = by_mode f.mode found

-- what a pair tells, on the data
tells : (ports : ℕ) (words : List ℕ) (id : ℕ) (f : Filter) → Sound f → Tells words id f (reason_number (asked f (pgn_of id) (name ports words id f)).reason)
tells ports words id f S = rw (of_pair f (pgn_of id) (name ports words id f), finds f S (pgn_of id)) (go (here ports words id f) refl)
  where
    go : (b : Bool) → here ports words id f ≡ b → Tells words id f (pair_reason f (pgn_of id) b)
    go true e = as_listed (listed_here ports words id f e)
    go false e = as_not_listed (not_listed_here ports words id f e)

no_digit : (q : ℕ) → digit_at 0 q ≡ 0
unfolding digit_at
no_digit q = rw (zero-div (16 ^ q))

-- no pair is asked about a frame for the unit
told_none : (ports : ℕ) (rest : Rest) (p id : ℕ) → consumes rest.own id ≡ true → digits (λ q. reason_number (offered ports rest p id q).reason) ports ≡ 0
unfolding offered
told_none ports rest p id own = rw own (digits_none ports)

module _ {words bytes after : List ℕ} {port id : ℕ} {r : FrameTold} (F : Framing (ports_of words) words after port id bytes r) where
  abbrev m : Model
  m = unit_in words

  -- a refused frame
  turned_away_lem : (number : ℕ) → (number ≡ 0 → ⊥) → r ≡ frame_refused number → Reasons words port id r
  turned_away_lem number some a = record {
    asked = λ _ done. absurd (some (sym (ap (λ (x : FrameTold). x.refusal) a) ∙ done));
    back = λ _. rw a (no_digit (port - 1));
    past = λ q _. rw a (no_digit (q - 1));
    refused = λ _. rw a;
    consumed = λ _. rw a;
  }

  module _ (least : 1 ≤ port) (here : port - 1 < ports_of words) (a : r ≡ frame_passed (ports_of words) (unit_in words) port (frame_of id bytes)) where
    apart : (q : ℕ) → 1 ≤ q → port - 1 ≡ q - 1 → port ≡ q
    apart q l same = omega (arith, least, l, same)

    abbrev told : ℕ → ℕ
    told q = reason_number (offered (ports_of words) m.rest (port - 1) id q).reason

    told_small : (q : ℕ) → told q < 16
    told_small q = reason_below (offered (ports_of words) m.rest (port - 1) id q).reason

    reasons_are : r.reasons ≡ digits told (ports_of words)
    unfolding frame_passed
    reasons_are = ap (λ (x : FrameTold). x.reasons) a

    consumed_is : r.consumed ≡ consumes m.rest.own id
    unfolding frame_passed
    consumed_is = ap (λ (x : FrameTold). x.consumed) a

    refusal_is : r.refusal ≡ 0
    unfolding frame_passed
    refusal_is = ap (λ (x : FrameTold). x.refusal) a

    -- at another port, a frame that is not for the unit
    told_pair : Reached words → (q : ℕ) → consumes m.rest.own id ≡ false → (port - 1 ≡ q - 1 → ⊥) → Tells words id (pair_on words port q) (told (q - 1))
    unfolding offered verdict
    told_pair R q free ne =
        rw (free, ne_eqb (port - 1) (q - 1) ne)
        (tells (ports_of words) words id (pair_on words port q) ((stands R).good (pair_at (ports_of words) (port - 1) (q - 1))).sound)

    told_back : told (port - 1) ≡ 0
    told_back = rw (not_offered_back (ports_of words) m.rest (port - 1) id)

    -- a frame that went through
    went : Reasons words port id r
    went = record {
      asked = λ R done free q is ne.
          let b = port_bounds (ports_of words) q is in
          rw (reasons_are, digit_at_lem told told_small (ports_of words) (q - 1) (omega (arith, b.0, b.1))) (told_pair R q (sym consumed_is ∙ free) (λ same. ne (apart q b.0 same)));
      back = λ least. rw reasons_are (digit_at_lem told told_small (ports_of words) (port - 1) here ∙ told_back);
      past = λ q beyond. rw reasons_are (digit_past told told_small (ports_of words) (q - 1) (omega arith));
      refused = λ some. absurd (some refusal_is);
      consumed = λ own. reasons_are ∙ told_none (ports_of words) m.rest (port - 1) id (sym consumed_is ∙ own);
    }

  pub reasons : Reasons words port id r
  unfolding frame_answer
  reasons = go (eqb (frame_refusal (ports_of words) (length words) port id (length bytes)) 0) refl
    where
      go : (t : Bool) → eqb (frame_refusal (ports_of words) (length words) port id (length bytes)) 0 ≡ t → Reasons words port id r
      go true e =
          let g = frame_goes (ports_of words) (length words) port id (length bytes) (eqb-true _ 0 e) in
          went g.1 (omega (arith, g.1, g.2)) (rw e at F.answer)
      go false e = turned_away_lem (frame_refusal (ports_of words) (length words) port id (length bytes)) (eqb-false _ 0 e) (rw e at F.answer)
