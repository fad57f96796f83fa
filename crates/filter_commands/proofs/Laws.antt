-- What the rules make of every filter: commands keep it sound, a PGN keeps or changes its place as the rules say, and a list that is created from the
-- bytes that report it is that list again. From the laws of the lists, by whether the command may be done. Assumes nothing.
use mathlib.Core.Path.{◌≡◌, refl, sym, ap, ◌∙◌}
use mathlib.Core.Bool.{Bool, true, false, cond, not, ◌&&◌, ◌||◌, true≢false, and-false}
use mathlib.Core.List.{List, [], ◌∷◌, ◌++◌}
use Prim.Native.Nat.{ℕ, zero, suc, ◌^◌, ◌≤◌, ◌<◌, zero-le}
use native.Mathlib.Nat.{le_trans, le_refl}
use native.Mathlib.Omega.{arith}
use borrow.Author.Tests.{eq-eqb, ltb-false, le-ltb, leb-false, not-true}
use lib.Dec.{ltb, leb, eqb}
use lib.ListN.{length, get_or, drop, replicate, length-append, drop_of_length-le}
use Rattle.identifier.specs.Identifier.{is_pgn}
use Rattle.entries.proofs.Reported.{pgns_small, reported_back}
use Rattle.sorted_list.specs.SortedList.{put_all, insert_all, fitted}
use Rattle.sorted_list.proofs.Commands.{in_step_added, in_step_deleted, put_sorts}
use Rattle.filter.specs.Filter.{mode_place, list_of, names_in, sorted_in, front_of, block_size, Mode, cleared, block, pass, Filter, clear, meant, filter_of, permits, is_permanent, permitted, reported_mode, is_cleared}
use Rattle.pgn_list.specs.PgnList.{list_size, add_one, add_all, delete_all, once}
use Rattle.entries.specs.Entries.{listed, entries_of, every, reported}
use Rattle.name_entries.specs.NameEntries.{NameEntry, most_names, names_of, is_there}
use Rattle.name_entries.proofs.Matching.{as_many}
use Rattle.filter_commands.specs.Changes.{would_pass, lacks, passes_names, may_add, may_delete, may_create, may_name, with_list, added, deleted, mode_for, created, with_names, named, Sound}
use Rattle.filter.proofs.Meaning.{counting, cleared_none}
use Rattle.pgn_list.proofs.Changes.{one_listed, one_new}
use Rattle.checks.proofs.Tests.{both}
use Rattle.pgn_list.proofs.Lists.{deleted_listed, add_once, delete_once, delete_shorter, delete_less, add_different, add_every, delete_every}

-- ---- a cleared pair
pub fresh_cleared : filter_of (replicate block_size 0) ≡ clear
unfolding filter_of meant
fresh_cleared = refl

pub cleared_permits : (pgn : ℕ) → permitted clear pgn ≡ true
unfolding permitted permits
cleared_permits pgn = go (is_permanent pgn)
  where
    go : (b : Bool) → (b || true) ≡ true
    go true = refl
    go false = refl

-- "cleared" is not "block with no entries"
pub cleared_not_block : (es ss : List ℕ) → clear ≡ record { mode = block; entries = es; named = []; sorted = ss } → ⊥
cleared_not_block es ss e =
    let m : cleared ≡ block = ap {B = Mode} (λ (f : Filter). f.mode) e in
    let z : ◌≡◌ {A = ℕ} 0 1 = cc in
    omega arith

-- a pass pair with no entries permits nothing but the permanent PGNs
pub emptied_pass : (pgn : ℕ) → permitted (record { mode = pass; entries = []; named = []; sorted = [] }) pgn ≡ is_permanent pgn
unfolding permitted permits listed
emptied_pass pgn = go (is_permanent pgn)
  where
    go : (b : Bool) → (b || false) ≡ b
    go true = refl
    go false = refl

-- ---- sound: a cleared pair has no entries, no PGN twice, no more than a list holds; no more NAME entries than eight
-- what holds of a filter, and of what a command makes of it if it may be done, holds after the command
either : (P : Filter → Type 0) {f g : Filter} (b : Bool) → P f → (b ≡ true → P g) → P (cond b g f)
either P true old new = new refl
either P false old new = old

not_both : {A : Type 0} (b : Bool) → not b ≡ true → b ≡ true → A
not_both true h e = absurd (true≢false (sym h))
not_both false h e = absurd (true≢false (sym e))

few_enough : (f : Filter) (xs : List ℕ) → not (would_pass f xs) ≡ true → length (add_all f.entries xs) ≤ list_size
unfolding would_pass
few_enough f xs e = let n = length (add_all f.entries xs) in ltb-false list_size n (not-true (ltb list_size n) e)

unnamed_of : (m : ℕ) (es : List ℕ) (ns : List NameEntry) (ss : List ℕ) → is_cleared (meant m es ns ss).mode ≡ true → (meant m es ns ss).named ≡ []
unfolding meant is_cleared
unnamed_of zero es ns ss e = refl
unnamed_of (suc zero) es ns ss e = refl
unnamed_of (suc (suc zero)) es ns ss e = refl
unnamed_of (suc (suc (suc zero))) es ns ss e = absurd (true≢false (sym e))
unnamed_of (suc (suc (suc (suc m)))) es ns ss e = absurd (true≢false (sym e))

few_named_of : (m : ℕ) (es : List ℕ) (ns : List NameEntry) (ss : List ℕ) → length ns ≤ most_names → length (meant m es ns ss).named ≤ most_names
unfolding meant
few_named_of zero es ns ss h = zero-le
few_named_of (suc zero) es ns ss h = zero-le
few_named_of (suc (suc zero)) es ns ss h = zero-le
few_named_of (suc (suc (suc zero))) es ns ss h = h
few_named_of (suc (suc (suc (suc m)))) es ns ss h = h

module _ (words : List ℕ) where
  cleared_unnamed : is_cleared (filter_of words).mode ≡ true → (filter_of words).named ≡ []
  unfolding filter_of
  cleared_unnamed e = unnamed_of (get_or words mode_place 0) (front_of words (list_of words)) (names_of (names_in words)) (front_of words (sorted_in words)) e

  few_named : length (filter_of words).named ≤ most_names
  unfolding filter_of
  few_named =
      few_named_of (get_or words mode_place 0) (front_of words (list_of words)) (names_of (names_in words)) (front_of words (sorted_in words))
      (omega (arith, as_many (names_in words) refl))

-- of a block, only that no PGN stands twice and that they are in order is to be shown
pub block_sound : (words : List ℕ) → length words ≡ block_size → once (filter_of words).entries ≡ true → (filter_of words).sorted ≡ insert_all [] (filter_of words).entries
    → Sound (filter_of words)
block_sound words long h o = record {
  none = cleared_none words;
  different = h;
  few = (counting words (omega (arith, long))).small;
  unnamed = cleared_unnamed words;
  few_names = few_named words;
  in_order = o;
}

pub clear_sound : Sound clear
unfolding once insert_all
clear_sound = record { none = λ _. refl; different = refl; few = zero-le; unnamed = λ _. refl; few_names = zero-le; in_order = refl }

pub added_sound : {f : Filter} → Sound f → (xs : List ℕ) → Sound (added f xs)
unfolding added may_add
added_sound {f} S xs =
    either Sound (not (is_cleared f.mode) && not (would_pass f xs)) S
    (λ e.
    let p = both (not (is_cleared f.mode)) (not (would_pass f xs)) e in
    record {
      none = not_both (is_cleared f.mode) p.0;
      different = add_once f.entries xs S.different;
      few = few_enough f xs p.1;
      unnamed = not_both (is_cleared f.mode) p.0;
      few_names = S.few_names;
      in_order = in_step_added f.entries xs f.sorted S.different S.in_order;
    })

pub deleted_sound : {f : Filter} → Sound f → (xs : List ℕ) → Sound (deleted f xs)
unfolding deleted may_delete
deleted_sound {f} S xs =
    either Sound (not (is_cleared f.mode) && not (lacks f xs)) S
    (λ e.
    let p = both (not (is_cleared f.mode)) (not (lacks f xs)) e in
    record {
      none = not_both (is_cleared f.mode) p.0;
      different = delete_once f.entries xs S.different;
      few = le_trans (delete_shorter f.entries xs) S.few;
      unnamed = not_both (is_cleared f.mode) p.0;
      few_names = S.few_names;
      in_order = in_step_deleted f.entries xs f.sorted S.different S.in_order;
    })

mode_for_lem : (passing : Bool) → is_cleared (mode_for passing) ≡ false
unfolding is_cleared mode_for
mode_for_lem true = refl
mode_for_lem false = refl

pub created_sound : {f : Filter} → Sound f → (passing : Bool) (xs : List ℕ) → Sound (created passing f xs)
unfolding created may_create once insert_all
created_sound {f} S passing xs =
    either Sound (is_cleared f.mode && not (would_pass f xs)) S
    (λ e.
    let p = both (is_cleared f.mode) (not (would_pass f xs)) e in
    record {
      none = λ c. absurd (true≢false (sym c ∙ mode_for_lem passing));
      different = add_once [] xs refl;
      few = rw (S.none p.0) at (few_enough f xs p.1);
      unnamed = λ _. refl;
      few_names = zero-le;
      in_order = in_step_added [] xs [] refl refl;
    })

-- a further NAME entry, where it is not yet there and there are fewer than eight
one_more_lem : (t : Bool) (ns : List NameEntry) (e : NameEntry) → length ns ≤ most_names → not (not t && leb most_names (length ns)) ≡ true
    → length (cond t ns (ns ++ e ∷ [])) ≤ most_names
one_more_lem true ns e few h = few
one_more_lem false ns e few h =
    let l : length ns < most_names = leb-false most_names (length ns) (not-true (leb most_names (length ns)) h) in
    omega (arith, length-append ns (e ∷ []))

pub named_sound : {f : Filter} → Sound f → (e : NameEntry) → Sound (named f e)
unfolding named may_name passes_names
named_sound {f} S e =
    either Sound (not (is_cleared f.mode) && not (passes_names f e)) S
    (λ h.
    let p = both (not (is_cleared f.mode)) (not (passes_names f e)) h in
    record {
      none = not_both (is_cleared f.mode) p.0;
      different = S.different;
      few = S.few;
      unnamed = not_both (is_cleared f.mode) p.0;
      few_names = one_more_lem (is_there e f.named) f.named e S.few_names p.1;
      in_order = S.in_order;
    })

-- "one already there changes nothing"
pub name_again : (f : Filter) (e : NameEntry) → is_there e f.named ≡ true → named f e ≡ f
unfolding named
name_again f e h = go (may_name f e)
  where
    go : (b : Bool) → cond b (with_names f (cond (is_there e f.named) f.named (f.named ++ e ∷ []))) f ≡ f
    go true = rw h
    go false = refl

-- ---- entries that are PGNs: they stay so
abbrev Pgns : Filter → Type 0
Pgns f = every is_pgn f.entries ≡ true

module _ (f : Filter) (xs : List ℕ) (pgns : every is_pgn f.entries ≡ true) where
  pub added_pgns : every is_pgn xs ≡ true → every is_pgn (added f xs).entries ≡ true
  unfolding added
  added_pgns h = either Pgns (may_add f xs) pgns (λ _. add_every is_pgn f.entries xs pgns h)

  pub deleted_pgns : every is_pgn (deleted f xs).entries ≡ true
  unfolding deleted
  deleted_pgns = either Pgns (may_delete f xs) pgns (λ _. delete_every is_pgn f.entries xs pgns)

  pub created_pgns : (passing : Bool) → every is_pgn xs ≡ true → every is_pgn (created passing f xs).entries ≡ true
  unfolding created every
  created_pgns passing h = either Pgns (may_create f xs) pgns (λ _. add_every is_pgn [] xs refl h)

  pub named_pgns : (e : NameEntry) → every is_pgn (named f e).entries ≡ true
  unfolding named
  named_pgns e = either Pgns (may_name f e) pgns (λ _. pgns)

-- ---- the place of a PGN
-- adding a listed PGN changes nothing
pub add_listed : (f : Filter) (x : ℕ) → listed x f.entries ≡ true → added f (x ∷ []) ≡ f
unfolding added add_all put_all
add_listed f x l = go (may_add f (x ∷ []))
  where
    none : drop (length f.entries) f.entries ≡ []
    none = drop_of_length-le f.entries {i = length f.entries} (le_refl (length f.entries))

    go : (b : Bool) → cond b (with_list f (add_one f.entries x) (put_all f.sorted (drop (length f.entries) (add_one f.entries x)))) f ≡ f
    go true = rw (one_listed f.entries x l, none)
    go false = refl

-- deleted and added again, a PGN stands last
module _ (f : Filter) (x : ℕ) (S : Sound f) (e : is_cleared f.mode ≡ false) (l : listed x f.entries ≡ true) where
  abbrev less : Filter
  less = with_list f (delete_all f.entries (x ∷ [])) (fitted (length (delete_all f.entries (x ∷ []))) (delete_all f.sorted (x ∷ [])))

  gone : deleted f (x ∷ []) ≡ less
  unfolding deleted may_delete lacks every
  gone = rw (e, l)

  last : add_all (delete_all f.entries (x ∷ [])) (x ∷ []) ≡ delete_all f.entries (x ∷ []) ++ (x ∷ [])
  unfolding add_all listed
  last = one_new (delete_all f.entries (x ∷ [])) x (deleted_listed x f.entries (x ∷ []) ∙ rw (eq-eqb x x refl) (and-false (listed x f.entries)))

  pub delete_add : (added (deleted f (x ∷ [])) (x ∷ [])).entries ≡ delete_all f.entries (x ∷ []) ++ (x ∷ [])
  unfolding added may_add would_pass
  delete_add =
      let n : length (delete_all f.entries (x ∷ []) ++ (x ∷ [])) ≤ list_size = omega (arith, length-append (delete_all f.entries (x ∷ [])) (x ∷ []), delete_less f.entries x l, S.few) in
      rw (gone, last, e, le-ltb list_size (length (delete_all f.entries (x ∷ []) ++ (x ∷ []))) n)

-- ---- the round trip
-- a list with a mode, created on a cleared pair from the bytes that report it, is that list again
pub round_trip : (passing : Bool) (es : List ℕ) → once es ≡ true → every (λ x. ltb x (2 ^ 24)) es ≡ true → length es ≤ list_size → created passing clear (entries_of (reported es)) ≡ record { mode = mode_for passing; entries = es; named = []; sorted = put_all [] es }
unfolding created may_create would_pass is_cleared
round_trip passing es h small few =
    rw (reported_back es small, add_different [] es h, le-ltb list_size (length es) few)

-- the mode that is reported, given to Create, is the mode again
mode_back : (m : Mode) → is_cleared m ≡ false → mode_for (eqb (reported_mode m) 1) ≡ m
unfolding is_cleared reported_mode mode_for
mode_back cleared e = absurd (true≢false e)
mode_back block e = refl
mode_back pass e = refl

-- so what function 0 reports of a pair that is not cleared, created on a cleared pair, is the pair's filter again
pub restored : (f : Filter) → Sound f → every is_pgn f.entries ≡ true → is_cleared f.mode ≡ false → created (eqb (reported_mode f.mode) 1) clear (entries_of (reported f.entries)) ≡ with_names f []
restored f S pgns e =
    round_trip (eqb (reported_mode f.mode) 1) f.entries S.different (pgns_small f.entries pgns) S.few
    ∙ rw (mode_back f.mode e, S.in_order, put_sorts f.entries S.different)
