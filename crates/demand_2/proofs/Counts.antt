-- What an answer tells was compared is the sum of what each pair compared. Assumes nothing.
use Rattle.bridge.specs.Told.{FrameTold}
use mathlib.Core.Path.{◌≡◌, refl, sym, ap, subst, ◌∙◌}
use mathlib.Core.Bool.{Bool, true, false, cond}
use mathlib.Core.List.{List, [], ◌∷◌}
use Rattle.std.specs.Prelude.{Option, None, Some}
use Prim.Native.Nat.{ℕ, zero, suc, ◌+◌, ◌-◌, ◌%◌, ◌≤◌, zero-le}
use native.Mathlib.Nat.{le_refl}
use native.Mathlib.Omega.{arith}
use borrow.Author.Tests.{eqb-true, eqb-false, eq-eqb, ne_eqb}
use lib.Dec.{eqb}
use lib.ListN.{length, get_or}
use Rattle.checks.proofs.Ports.{port_bounds}
use Rattle.identifier.specs.Identifier.{pgn_of, sa_of}
use Rattle.pgn_list.specs.PgnList.{list_size}
use Rattle.name_entries.specs.NameEntries.{NameEntry, matches, place_in, place_of}
use Rattle.sorted_list.specs.SortedList.{halved}
use Rattle.sorted_list.proofs.Ceiling.{ceiling}
use Rattle.filter.specs.declared.Reason.{Reason}
use Rattle.filter.specs.declared.Asked.{Asked}
use Rattle.filter.specs.Filter.{Filter, clear, is_permanent, asked, block_size as filter_length}
use Rattle.addresses.specs.Table.{name_at}
use Rattle.unit.specs.Ports.{total}
use Rattle.unit.specs.Count.{ports_of, pair_count}
use Rattle.unit.specs.Model.{Model, Rest, pair_at, pairs_from, model_of}
use Rattle.unit.specs.Own.{consumes}
use Rattle.forwarding.specs.Forwarding.{silent, verdict}
use Rattle.refusals.specs.Refusals.{frame_refusal}
use Rattle.bridge.specs.Calls.{frame_of, offered, frame_passed, frame_refused, frame_answer, Framing}
use Rattle.refusals.proofs.Checks.{frame_goes}
use Rattle.unit.proofs.Ports.{total_none}
use Rattle.bridge.proofs.Laws.{not_offered_back}
use Rattle.demand_2.specs.Matching.{Compares}
use Rattle.demand_2.specs.Demand2.{unit_in, pair_on, Reached, sum_to, Ceiling, Counts}
use Rattle.demand_2.proofs.Kept.{stands}
use Rattle.demand_2.proofs.Matching.{pair_few, compares}

-- ports are counted from 1 in the one, from 0 in the other
sum_total : (f : ℕ → ℕ) (n : ℕ) → sum_to (λ q. f (q - 1)) n ≡ total f n
unfolding sum_to total
sum_total f zero = refl
sum_total f (suc n) = let e : suc n - 1 ≡ n = omega arith in omega (arith, sum_total f n, ap f e)

-- nothing is compared for a frame that is for the unit
none_compared : (ports : ℕ) (rest : Rest) (p id : ℕ) → consumes rest.own id ≡ true → total (λ q. (offered ports rest p id q).compared) ports ≡ 0
unfolding offered
none_compared ports rest p id own = rw own (total_none ports)

none_summed : (n : ℕ) → sum_to (λ q. 0 + 0) n ≡ 0
unfolding sum_to
none_summed zero = refl
none_summed (suc n) = rw (none_summed n)

total_same : (f g : ℕ → ℕ) → ((q : ℕ) → f q ≡ g q) → (n : ℕ) → total f n ≡ total g n
unfolding total
total_same f g e zero = refl
total_same f g e (suc n) = rw (total_same f g e n, e n)

-- of the NAME entries not more are compared than there are
place_in_few : (pgn name : ℕ) (es : List NameEntry) → place_in pgn name es ≤ length es
unfolding place_in
place_in_few pgn name [] = zero-le
place_in_few pgn name (e ∷ es) = go (matches pgn name e) (place_in_few pgn name es)
  where
    go : (b : Bool) → place_in pgn name es ≤ length es → cond b 1 (suc (place_in pgn name es)) ≤ suc (length es)
    go true h = omega arith
    go false h = omega arith

place_few : (pgn : ℕ) (sender : Option ℕ) (es : List NameEntry) → place_of pgn sender es ≤ length es
place_few pgn None es = le_refl (length es)
place_few pgn (Some name) es = place_in_few pgn name es

-- ---- the two parts of what is compared for port q
module _ (ports : ℕ) (rest : Rest) (p id q : ℕ) where
  abbrev pair : Filter
  pair = get_or rest.pairs (pair_at ports p q) clear

  abbrev asking : ℕ → ℕ
  asking n = cond (consumes rest.own id) 0 (cond (eqb p q) 0 (cond (is_permanent (pgn_of id)) 0 n))

  asking_few : (n most : ℕ) → n ≤ most → asking n ≤ most
  asking_few n most h = go (consumes rest.own id) (eqb p q) (is_permanent (pgn_of id))
    where
      go : (a b c : Bool) → cond a 0 (cond b 0 (cond c 0 n)) ≤ most
      go true b c = zero-le
      go false true c = zero-le
      go false false true = zero-le
      go false false false = h

  abbrev list_part : ℕ
  list_part = asking (halved (pgn_of id) pair.sorted).probes

  abbrev compareds : ℕ
  compareds = cond (halved (pgn_of id) pair.sorted).found 0 (place_of (pgn_of id) (name_at rest.table (sa_of id)) pair.named)

  abbrev name_part : ℕ
  name_part = asking compareds

  parts : (offered ports rest p id q).compared ≡ list_part + name_part
  unfolding offered verdict asked
  parts = go (consumes rest.own id) (eqb p q) (is_permanent (pgn_of id)) _ _ _
    where
      go : (a b c : Bool) (reason : Reason) (x y : ℕ) → (cond {A = Asked} a silent (cond b silent (cond c (record { reason = Reason.Permanent; compared = 0 }) (record { reason = reason; compared = x + y })))).compared
          ≡ cond a 0 (cond b 0 (cond c 0 x)) + cond a 0 (cond b 0 (cond c 0 y))
      go true b c r x y = refl
      go false true c r x y = refl
      go false false true r x y = refl
      go false false false r x y = refl

  list_part_few : length pair.sorted ≤ list_size → list_part ≤ 6
  list_part_few h = asking_few (halved (pgn_of id) pair.sorted).probes 6 (ceiling (pgn_of id) pair.sorted h)

  name_part_few : name_part ≤ length pair.named
  name_part_few = asking_few compareds (length pair.named) (few (halved (pgn_of id) pair.sorted).found)
    where
      few : (b : Bool) → cond b 0 (place_of (pgn_of id) (name_at rest.table (sa_of id)) pair.named) ≤ length pair.named
      few true = zero-le
      few false = place_few (pgn_of id) (name_at rest.table (sa_of id)) pair.named

parts_back : (ports : ℕ) (rest : Rest) (p id : ℕ) → list_part ports rest p id p + name_part ports rest p id p ≡ 0
parts_back ports rest p id = rw (eq-eqb p p refl) (go (consumes rest.own id))
  where
    go : (b : Bool) → ◌≡◌ {A = ℕ} (cond b 0 0 + cond b 0 0) 0
    go true = refl
    go false = refl

module _ {words bytes after : List ℕ} {port id : ℕ} {r : FrameTold} (F : Framing (ports_of words) words after port id bytes r) where
  abbrev m : Model
  m = unit_in words

  -- a refused frame
  turned_away_lem : (number : ℕ) → (number ≡ 0 → ⊥) → r ≡ frame_refused number → Counts words port id r
  turned_away_lem number ne a = record {
    asked = λ _ done. absurd (ne (sym (ap (λ (x : FrameTold). x.refusal) a) ∙ done));
    ceiling = rw a (record {
      plain = λ _. 0;
      named = λ _. 0;
      most = λ q. zero-le;
      there = λ q. zero-le;
      back = refl;
      sum = sym (none_summed (ports_of words));
    });
    refused = λ _. rw a;
    consumed = λ _. rw a;
  }

  -- a frame that went through
  module _ (least : 1 ≤ port) (a : r ≡ frame_passed (ports_of words) (unit_in words) port (frame_of id bytes)) where
    abbrev compared : ℕ → ℕ
    compared q = (offered (ports_of words) m.rest (port - 1) id q).compared

    sum_is : r.compared ≡ total compared (ports_of words)
    unfolding frame_passed
    sum_is = ap (λ (x : FrameTold). x.compared) a

    consumed_is : r.consumed ≡ consumes m.rest.own id
    unfolding frame_passed
    consumed_is = ap (λ (x : FrameTold). x.consumed) a

    refusal_is : r.refusal ≡ 0
    unfolding frame_passed
    refusal_is = ap (λ (x : FrameTold). x.refusal) a

    pair_asked : (q : ℕ) → consumes m.rest.own id ≡ false → (port - 1 ≡ q - 1 → ⊥) → asked (pair_on words port q) (pgn_of id) (name_at m.rest.table (id % 256)) ≡ offered (ports_of words) m.rest (port - 1) id (q - 1)
    unfolding offered verdict
    pair_asked q free ne = rw (free, ne_eqb (port - 1) (q - 1) ne)

    of_pair : Reached words → (q : ℕ) → consumes m.rest.own id ≡ false → (port - 1 ≡ q - 1 → ⊥) → Compares words id (pair_on words port q) (compared (q - 1))
    of_pair R q free ne =
        let S = ((stands R).good (pair_at (ports_of words) (port - 1) (q - 1))).sound in
        subst (λ (v : Asked). Compares words id (pair_on words port q) v.compared) (pair_asked q free ne) (compares (ports_of words) words id (pair_on words port q) S)

    -- what is compared in the list, and among the NAME entries
    abbrev in_list : ℕ → ℕ
    in_list q = list_part (ports_of words) m.rest (port - 1) id (q - 1)

    abbrev in_names : ℕ → ℕ
    in_names q = name_part (ports_of words) m.rest (port - 1) id (q - 1)

    few : (q : ℕ) → length (pair_on words port q).sorted ≤ list_size
    unfolding model_of
    few q = pair_few (pairs_from (ports_of words)) filter_length (pair_count (ports_of words)) words (pair_at (ports_of words) (port - 1) (q - 1))

    bounded : Ceiling words port r.compared
    bounded = record {
      plain = in_list;
      named = in_names;
      most = λ q. list_part_few (ports_of words) m.rest (port - 1) id (q - 1) (few q);
      there = λ q. name_part_few (ports_of words) m.rest (port - 1) id (q - 1);
      back = parts_back (ports_of words) m.rest (port - 1) id;
      sum = sum_is ∙ total_same compared (λ q. list_part (ports_of words) m.rest (port - 1) id q + name_part (ports_of words) m.rest (port - 1) id q)
          (parts (ports_of words) m.rest (port - 1) id) (ports_of words)
          ∙ sym (sum_total (λ q. list_part (ports_of words) m.rest (port - 1) id q + name_part (ports_of words) m.rest (port - 1) id q) (ports_of words));
    }

    went : Counts words port id r
    went = record {
      asked = λ R done free. record {
        count = λ q. compared (q - 1);
        pair = λ q is ne.
            let b = port_bounds (ports_of words) q is in
            of_pair R q (sym consumed_is ∙ free) (λ same. ne (omega (arith, least, b.0, same)));
        back = ap (λ (v : Asked). v.compared) (not_offered_back (ports_of words) m.rest (port - 1) id);
        sum = sum_is ∙ sym (sum_total compared (ports_of words));
      };
      ceiling = bounded;
      refused = λ ne. absurd (ne refusal_is);
      consumed = λ own. sum_is ∙ none_compared (ports_of words) m.rest (port - 1) id (sym consumed_is ∙ own);
    }

  pub counts : Counts words port id r
  unfolding frame_answer
  counts = go (eqb (frame_refusal (ports_of words) (length words) port id (length bytes)) 0) refl
    where
      go : (t : Bool) → eqb (frame_refusal (ports_of words) (length words) port id (length bytes)) 0 ≡ t → Counts words port id r
      go true e =
          let g = frame_goes (ports_of words) (length words) port id (length bytes) (eqb-true _ 0 e) in
          went g.1 (rw e at F.answer)
      go false e = turned_away_lem (frame_refusal (ports_of words) (length words) port id (length bytes)) (eqb-false _ 0 e) (rw e at F.answer)
