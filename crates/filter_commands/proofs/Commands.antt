-- The commands on a block: where a question says so no word changes, and else the stored words mean the list that the command makes. Assumes nothing.
use mathlib.Core.Path.{◌≡◌, refl, sym, ap, ◌∙◌}
use mathlib.Core.Bool.{Bool, true, false, cond, not, and-false, false≢true, true≢false}
use mathlib.Core.List.{List, [], ◌∷◌}
use Prim.Native.Nat.{ℕ, zero, suc, ◌-◌, ◌≤◌, ◌<◌}
use native.Mathlib.Omega.{arith}
use borrow.Author.Rules.{rules}
use borrow.Author.Tests.{eqb-false, lt-ltb, le-ltb}
use lib.Dec.{eqb, ltb}
use lib.ListN.{length, get_or, set, take, drop, length-set, take-append-drop}
use lib.Seq.{length-take-le}
use Rattle.storage.proofs.Parts.{back}
use Rattle.filter.specs.Filter.{mode_place, count_place, list_place, list_of, names_in, sorted_in, front_of, block_size, Filter, meant, filter_of, Counting, is_cleared}
use Rattle.name_entries.specs.NameEntries.{NameEntry, names_of}
use Rattle.sorted_list.specs.SortedList.{put_all, appended, fitted}
use Rattle.pgn_list.specs.PgnList.{list_size, add_all, delete_all}
use Rattle.filter_commands.specs.Changes.{would_pass, lacks, may_add, may_delete, may_create, with_list, added, deleted, mode_for, created, Changing, Adding, Deleting, Creating}
use Rattle.entries.specs.Entries.{every}
use Rattle.std.specs.Prelude.{Option, None, Some, IsSome, is_some, position}
use Rattle.pgn_list.specs.Steps.{Extended, Extending, Keeping}
use Rattle.filter_commands.specs.Steps.{Relisted, Resorted, Growing}
use Rattle.filter.proofs.Meaning.{list_whole, cleared_test, cleared_none, front, sorted_front}
use Rattle.filter_commands.proofs.Sorting.{Written, written, put_in_order}
use Rattle.pgn_list.proofs.Changes.{longer, not_longer}
use Rattle.pgn_list.proofs.Search.{absent, present}

-- ---- a command refused, or done
pub stays : {words : List ℕ} {may : Bool} (after : Filter) → may ≡ false → Changing words words may (cond may after (filter_of words)) false
stays after e = record { done = sym e; state = rw e; long = refl; refused = λ _. refl }

pub changed : {words exit : List ℕ} {may : Bool} {after : Filter} → may ≡ true → length exit ≡ length words → filter_of exit ≡ after → Changing words exit may (cond may after (filter_of words)) true
changed e long state = record { done = sym e; state = rw e state; long = long; refused = λ f. absurd (true≢false (sym e ∙ f)) }

-- ---- how many different PGNs
few_entries : (list xs : List ℕ) (n : ℕ) → n ≤ length list → length xs ≤ list_size - n → n ≤ list_size → ltb list_size (length (add_all (take n list) xs)) ≡ false
few_entries list xs n fits l small =
    le-ltb list_size (length (add_all (take n list) xs)) (omega (arith, not_longer (take n list) xs, length-take-le n list fits))

counted_none : (entry : List ℕ) (n : ℕ) (xs : List ℕ) → list_size < length (add_all (take n entry) xs) → ltb list_size (length (add_all (take n entry) xs)) ≡ true
counted_none entry n xs h = lt-ltb list_size (length (add_all (take n entry) xs)) h

counted_some : {entry exit : List ℕ} {n : ℕ} {xs : List ℕ} {held : ℕ} → Extended entry exit n xs held → ltb list_size (length (add_all (take n entry) xs)) ≡ false
counted_some {entry} {exit} {n} {xs} E = le-ltb list_size (length (add_all (take n entry) xs)) (omega (arith, E.number, E.inside))

-- what would_pass answers, without a trial and with one
module _ {words : List ℕ} (xs : List ℕ) {n : ℕ} (long : length words ≡ block_size) (C : Counting words n) where
  pub pass_few : length xs ≤ list_size - n → would_pass (filter_of words) xs ≡ false
  unfolding would_pass
  pass_few h = rw (← (front C)) (few_entries (list_of words) xs n (omega (arith, C.small, list_whole words long)) h C.small)

  pub pass_tried : (list exit : List ℕ) (r : Option ℕ) → list ≡ list_of words → Extending list exit n xs r → is_some r ≡ not (would_pass (filter_of words) xs)
  unfolding would_pass
  pass_tried list exit None q h = rw (← (front C), ← q, counted_none list n xs h)
  pass_tried list exit (Some held) q E = rw (← (front C), ← q, counted_some E)

-- ---- a block with another list
-- the same mode with another list
meant_again : (m : ℕ) (es es' : List ℕ) (ns : List NameEntry) (ss ss' : List ℕ) → (m ≡ 0 → ⊥) → meant m es ns ss ≡ with_list (meant m es' ns ss') es ss
unfolding meant
meant_again zero es es' ns ss ss' h = absurd (h refl)
meant_again (suc zero) es es' ns ss ss' h = refl
meant_again (suc (suc zero)) es es' ns ss ss' h = refl
meant_again (suc (suc (suc zero))) es es' ns ss ss' h = refl
meant_again (suc (suc (suc (suc m)))) es es' ns ss ss' h = refl

relisted : {words exit es ss : List ℕ} → is_cleared (filter_of words).mode ≡ false → Relisted words exit es ss → filter_of exit ≡ with_list (filter_of words) es ss
unfolding filter_of
relisted {words} {exit} {es} {ss} e R =
    let m = get_or words mode_place 0 in
    let old = front_of words (list_of words) in
    let ns = names_of (names_in words) in
    let was = front_of words (sorted_in words) in
    rw (R.mode, R.list, R.names, R.sorted) (meant_again m es old ns ss was (eqb-false m 0 (sym (cleared_test m old ns was) ∙ e)))

-- ---- growing
-- of a block whose list was written with its count, what is new is put in order
abbrev Sorted : ℕ → ℕ → List ℕ → List ℕ → Type 0
Sorted n held mid exit = Resorted mid exit (put_all (take n (sorted_in mid)) (drop n (take held (list_of mid)))) held

in_order : (words xs : List ℕ) {n held : ℕ} {mid exit ys : List ℕ} → length words ≡ block_size → n ≤ list_size → Written words mid ys held
    → take held ys ≡ add_all (take n (list_of words)) xs → Sorted n held mid exit
    → Relisted words exit (add_all (take n (list_of words)) xs) (put_all (take n (sorted_in words)) (appended (take n (list_of words)) xs))
in_order words xs {n} long small W e R =
    let first : length (take n (list_of words)) ≡ n = length-take-le n (list_of words) (omega (arith, list_whole words long)) in
    rw first (put_in_order W e (rw (W.behind, W.list, e) at R))

-- it can be: there are not fewer than before
pub not_fewer : {list tried xs : List ℕ} {n held : ℕ} → length list ≡ list_size → n ≤ list_size → Extended list tried n xs held → n ≤ held
not_fewer {list} {tried} {xs} {n} l small E = omega (arith, E.number, longer (take n list) xs, length-take-le n list (omega arith))

pub written_long : (words ys : List ℕ) (r : ℕ) → length words ≡ block_size → length ys ≡ list_size → length (set (back list_place list_size words ys) count_place r) ≡ block_size
written_long words ys r long h = (written words ys r long h).long ∙ long

-- few entries are never too many
pub grow_few : (words xs ys : List ℕ) {n : ℕ} (r : Option ℕ) → length words ≡ block_size → n ≤ list_size → length xs ≤ list_size - n
    → Extending (list_of words) ys n xs r → IsSome r
grow_few words xs ys {n = n} None long small l h =
    absurd (true≢false (sym (counted_none (list_of words) n xs h) ∙ few_entries (list_of words) xs n (omega (arith, list_whole words long)) l small))
grow_few words xs ys (Some held) long small l E = search rules

module _ {words xs : List ℕ} {n : ℕ} (long : length words ≡ block_size) (small : n ≤ list_size) where
  -- a list that was not changed, lent as a part that came back
  pub grow_not : {ys : List ℕ} → ys ≡ list_of words → list_size < length (add_all (take n (list_of words)) xs) → Growing words (back list_place list_size words ys) n xs false
  grow_not {ys} same h = record {
    done = rw (counted_none (list_of words) n xs h);
    grown = λ f. absurd (false≢true f);
    refused = λ _. rw same (rw (take-append-drop list_size (drop list_place words)) (take-append-drop list_place words));
  }

  module _ {list : List ℕ} (copy : list ≡ list_of words) where
    pub grow_over : list_size < length (add_all (take n list) xs) → Growing words words n xs false
    grow_over h = record { done = rw (← copy, counted_none list n xs h); grown = λ f. absurd (false≢true f); refused = λ _. refl }

    pub grow_put : {tried exit : List ℕ} {held : ℕ} (ys : List ℕ) → Extended list tried n xs held → ys ≡ tried → length ys ≡ list_size
        → Sorted n held (set (back list_place list_size words ys) count_place held) exit → Growing words exit n xs true
    grow_put {held = held} ys E same l R =
        record {
          done = rw (← copy, counted_some E);
          grown = λ _. in_order words xs long small (written words ys held long l) (rw (← copy, same) E.entries) R;
          refused = λ f. absurd (true≢false f);
        }

-- ---- Add
module _ (words xs : List ℕ) where
  pub add_cleared : is_cleared (filter_of words).mode ≡ true → Adding words words xs false
  unfolding added may_add
  add_cleared e = stays (with_list (filter_of words) (add_all (filter_of words).entries xs) (put_all (filter_of words).sorted (appended (filter_of words).entries xs))) (rw e)

  module _ {n : ℕ} (long : length words ≡ block_size) (e : is_cleared (filter_of words).mode ≡ false) (C : Counting words n) where
    may_add_lem : {exit : List ℕ} {r : Bool} → Growing words exit n xs r → may_add (filter_of words) xs ≡ r
    unfolding may_add would_pass
    may_add_lem G = rw e (sym (rw (front C) at G.done))

    pub add_grown : {exit : List ℕ} (r : Bool) → Growing words exit n xs r → Adding words exit xs r
    unfolding added
    add_grown true G = let R = G.grown refl in changed (may_add_lem G) R.long (relisted e (rw (front C, sorted_front long C) at R))
    add_grown false G =
        rw (G.refused refl)
        (stays (with_list (filter_of words) (add_all (filter_of words).entries xs) (put_all (filter_of words).sorted (appended (filter_of words).entries xs))) (may_add_lem G))

-- ---- Delete
-- one entry
pub only_one : {x : ℕ} (xs : List ℕ) → length xs ≡ 1 → x ≡ get_or xs 0 0 → xs ≡ x ∷ []
only_one [] h e = absurd (omega arith)
only_one (y ∷ []) h e = rw e
only_one (y ∷ z ∷ xs) h e = absurd (omega arith)

module _ {words : List ℕ} {n : ℕ} (x : ℕ) (C : Counting words n) where
  pub one_absent : position (λ y. eqb y x) (take n (list_of words)) ≡ None → lacks (filter_of words) (x ∷ []) ≡ true
  unfolding lacks every
  one_absent h = rw (← (front C), absent x (take n (list_of words)) h)

  pub one_listed : {i : ℕ} → position (λ y. eqb y x) (take n (list_of words)) ≡ Some i → lacks (filter_of words) (x ∷ []) ≡ false
  unfolding lacks every
  one_listed h = rw (← (front C), present x (take n (list_of words)) h)

module _ (words xs : List ℕ) where
  abbrev less : Filter
  less = with_list (filter_of words) (delete_all (filter_of words).entries xs) (fitted (length (delete_all (filter_of words).entries xs)) (delete_all (filter_of words).sorted xs))

  pub delete_cleared : is_cleared (filter_of words).mode ≡ true → Deleting words words xs false
  unfolding deleted may_delete
  delete_cleared e = stays less (rw e)

  pub delete_lacking : lacks (filter_of words) xs ≡ true → Deleting words words xs false
  unfolding deleted may_delete
  delete_lacking e = stays less (rw e (and-false (not (is_cleared (filter_of words).mode))))

  pub delete_done : {exit : List ℕ} (ys : List ℕ) {n kept : ℕ} → length words ≡ block_size → is_cleared (filter_of words).mode ≡ false → lacks (filter_of words) xs ≡ false
      → Counting words n → length ys ≡ list_size → Keeping (list_of words) ys n xs kept
      → Resorted (set (back list_place list_size words ys) count_place kept) exit (fitted kept (delete_all (take n (sorted_in (set (back list_place list_size words ys) count_place kept))) xs)) kept
      → Deleting words exit xs true
  unfolding deleted may_delete
  delete_done {exit} ys {n} {kept} long e l C h K S =
      let W = written words ys kept long h in
      let left = rw (front C) at K.entries in
      let many : kept ≡ length (delete_all (filter_of words).entries xs) = sym (length-take-le kept ys (omega (arith, K.inside, C.small))) ∙ ap length left in
      let R = put_in_order W left S in
      changed (rw (e, l)) R.long (relisted e (rw (W.behind, sorted_front long C, many) at R))

-- ---- Create
-- a stored mode word: the list is as it was
pub made : (words : List ℕ) (m : ℕ) → 1 ≤ length words
    → filter_of (set words mode_place m) ≡ meant m (front_of words (list_of words)) (names_of (names_in words)) (front_of words (sorted_in words))
unfolding filter_of
made [] m h = absurd (omega arith)
made (a ∷ words) m h = refl

module _ (passing : Bool) (words xs : List ℕ) where
  abbrev fresh : Filter
  fresh = record { mode = mode_for passing; entries = add_all [] xs; named = []; sorted = put_all [] (add_all [] xs) }

  pub create_listing : is_cleared (filter_of words).mode ≡ false → Creating passing words words xs false
  unfolding created may_create
  create_listing e = stays fresh (rw e)

  module _ (e : is_cleared (filter_of words).mode ≡ true) where
    may_create_lem : {exit : List ℕ} {r : Bool} → Growing words exit 0 xs r → may_create (filter_of words) xs ≡ r
    unfolding may_create would_pass
    may_create_lem G = rw (e, cleared_none words e) (sym G.done)

    pub create_over : {exit : List ℕ} {r : Bool} → r ≡ false → Growing words exit 0 xs r → Creating passing words exit xs false
    unfolding created
    create_over f G = rw (G.refused f) (stays fresh (may_create_lem G ∙ f))

    module _ {grown : List ℕ} {r : Bool} (long : length words ≡ block_size) (t : r ≡ true) (G : Growing words grown 0 xs r) where
      create_done : (m : ℕ) → meant m (add_all [] xs) (names_of (names_in grown)) (put_all [] (add_all [] xs)) ≡ fresh → Creating passing words (set grown 0 m) xs true
      unfolding created
      create_done m q =
          let R = G.grown t in
          changed (may_create_lem G ∙ t) (length-set grown 0 m ∙ R.long) (made grown m (omega (arith, R.long)) ∙ rw (R.list, R.sorted) q)

      pub create_pass : passing ≡ true → Creating passing words (set grown 0 2) xs true
      unfolding meant mode_for
      create_pass p = create_done 2 (rw p)

      pub create_block : passing ≡ false → Creating passing words (set grown 0 1) xs true
      unfolding meant mode_for
      create_block p = create_done 1 (rw p)

pub not_same : (a b : Bool) → not a ≡ not b → a ≡ b
not_same true true e = refl
not_same false false e = refl
not_same true false e = absurd (false≢true e)
not_same false true e = absurd (true≢false e)
