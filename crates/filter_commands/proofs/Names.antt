-- The NAME entry on a block: where a question says so no word changes, and else the stored words mean the entries with it. Assumes nothing.
use mathlib.Core.Path.{◌≡◌, refl, sym, ap, ◌∙◌}
use mathlib.Core.Bool.{Bool, true, false, cond, not, and-false, and-true}
use mathlib.Core.List.{List, [], ◌∷◌, ◌++◌}
use Prim.Native.Nat.{ℕ, zero, suc, ◌+◌, ◌≤◌, ◌<◌, min}
use native.Mathlib.Omega.{arith}
use borrow.Author.Tests.{ne_eqb, eq-eqb, le-leb, lt-leb}
use lib.ListN.{length, get_or, set, drop, length-set, length-drop}
use lib.Seq.{length-take-le}
use Rattle.storage.proofs.Parts.{back, length_back, part_in, part_before, part_after}
use Rattle.name_entries.specs.NameEntries.{NameEntry, most_names, names_length, entries_in, names_of, is_there, Appending}
use Rattle.name_entries.proofs.Matching.{as_many, names_are}
use Rattle.filter.specs.Filter.{mode_place, count_place, list_place, list_of, names_place, names_in, sorted_place, sorted_in, front_of, block_size, Filter, meant, filter_of, is_cleared}
use Rattle.filter.proofs.Meaning.{cleared_test, plain_names, with_names_lem}
use Rattle.pgn_list.specs.PgnList.{list_size}
use Rattle.filter_commands.specs.Changes.{passes_names, may_name, with_names, named, Naming}
use Rattle.filter_commands.proofs.Commands.{stays, changed, made}
use Rattle.filter_commands.proofs.Sorting.{word_before}

pub names_long : (words : List ℕ) → length words ≡ block_size → length (names_in words) ≡ names_length
names_long words long = length-take-le names_length (drop names_place words) (omega (arith, length-drop names_place words))

-- ---- the same pair with other NAME entries
meant_named : (m : ℕ) (es : List ℕ) (ns ms : List NameEntry) (ss : List ℕ) → 3 ≤ m → meant m es ms ss ≡ with_names (meant m es ns ss) ms
unfolding meant
meant_named zero es ns ms ss h = absurd (omega arith)
meant_named (suc zero) es ns ms ss h = absurd (omega arith)
meant_named (suc (suc zero)) es ns ms ss h = absurd (omega arith)
meant_named (suc (suc (suc zero))) es ns ms ss h = refl
meant_named (suc (suc (suc (suc m)))) es ns ms ss h = refl

-- the mode word of a pair that had none
meant_begun : (m : ℕ) (es : List ℕ) (ns ms : List NameEntry) (ss : List ℕ) → 1 ≤ m → m < 3 → meant (m + 2) es ms ss ≡ with_names (meant m es ns ss) ms
unfolding meant
meant_begun zero es ns ms ss l h = absurd (omega arith)
meant_begun (suc zero) es ns ms ss l h = refl
meant_begun (suc (suc zero)) es ns ms ss l h = refl
meant_begun (suc (suc (suc m))) es ns ms ss l h = absurd (omega arith)

module _ (words ys : List ℕ) (long : length words ≡ block_size) (l : length ys ≡ names_length) where
  -- the block with the part that came back
  abbrev renamed : List ℕ
  renamed = back names_place names_length words ys

  same_word : (i : ℕ) → i < names_place → get_or renamed i 0 ≡ get_or words i 0
  same_word i h = word_before names_place names_length words ys l (omega arith) i h

  same_list : front_of renamed (list_of renamed) ≡ front_of words (list_of words)
  same_list = rw (same_word count_place (omega arith), part_before names_place names_length words ys l (omega arith) list_place list_size (omega arith))

  same_sorted : front_of renamed (sorted_in renamed) ≡ front_of words (sorted_in words)
  same_sorted = rw (same_word count_place (omega arith), part_after names_place names_length words ys l (omega arith) sorted_place (omega arith))

  the_names_lem : names_in renamed ≡ ys
  the_names_lem = part_in names_place names_length words ys l (omega arith)

module _ (words : List ℕ) where
  abbrev mode_word : ℕ
  mode_word = get_or words mode_place 0

  abbrev the_list : List ℕ
  the_list = front_of words (list_of words)

  abbrev the_names : List NameEntry
  the_names = names_of (names_in words)

  abbrev the_sorted : List ℕ
  the_sorted = front_of words (sorted_in words)

  -- the entries that there are, by the mode word
  none_named : mode_word < 3 → (filter_of words).named ≡ []
  unfolding filter_of
  none_named h = plain_names mode_word the_list the_names the_sorted h

  some_named : 3 ≤ mode_word → (filter_of words).named ≡ the_names
  unfolding filter_of
  some_named h = with_names_lem mode_word the_list the_names the_sorted h

  not_cleared : 1 ≤ mode_word → is_cleared (filter_of words).mode ≡ false
  unfolding filter_of
  not_cleared h = cleared_test mode_word the_list the_names the_sorted ∙ ne_eqb mode_word 0 (λ e. omega (arith, e))

  is_cleared_lem : mode_word ≡ 0 → is_cleared (filter_of words).mode ≡ true
  unfolding filter_of
  is_cleared_lem h = cleared_test mode_word the_list the_names the_sorted ∙ eq-eqb mode_word 0 h

  module _ (ys : List ℕ) (long : length words ≡ block_size) (l : length ys ≡ names_length) where
    abbrev with : List NameEntry → Filter
    with ns = with_names (filter_of words) ns

    grown_names : 3 ≤ mode_word → filter_of (back names_place names_length words ys) ≡ with (names_of ys)
    unfolding filter_of
    grown_names h =
        rw (same_word words ys long l mode_place (omega arith), same_list words ys long l, same_sorted words ys long l, the_names_lem words ys long l)
        (meant_named mode_word the_list the_names (names_of ys) the_sorted h)

    begun_names : (m : ℕ) → m ≡ mode_word → 1 ≤ m → m < 3 → filter_of (set (back names_place names_length words ys) mode_place (m + 2)) ≡ with (names_of ys)
    unfolding filter_of
    begun_names m q low high =
        made (back names_place names_length words ys) (m + 2) (omega (arith, length_back names_place names_length words ys l (omega arith)))
        ∙ rw (same_list words ys long l, same_sorted words ys long l, the_names_lem words ys long l, q) (meant_begun mode_word the_list the_names (names_of ys) the_sorted (omega arith) (omega arith))

  -- ---- the question
  module _ (e : NameEntry) where
    -- the filter where the entry is not yet there
    abbrev more : List NameEntry → Filter
    more ns = with_names (filter_of words) (cond (is_there e ns) ns (ns ++ e ∷ []))

    pub full_none : mode_word < 3 → false ≡ passes_names (filter_of words) e
    unfolding passes_names is_there
    full_none h = rw (none_named h)

    module _ {n : ℕ} (high : 3 ≤ mode_word) (count : n ≡ min (get_or (names_in words) 0 0) most_names) where
      number : length (filter_of words).named ≡ n
      number = ap length (some_named high) ∙ as_many (names_in words) count

      there : {r : Bool} → r ≡ is_there e (entries_in n (drop 1 (names_in words))) → is_there e (filter_of words).named ≡ r
      there q = rw (some_named high, q, names_are (names_in words) count)

      pub full_room : n < most_names → false ≡ passes_names (filter_of words) e
      unfolding passes_names
      full_room h =
          let l : length (filter_of words).named < most_names = omega (arith, number) in
          rw (lt-leb most_names (length (filter_of words).named) l) (sym (and-false (not (is_there e (filter_of words).named))))

      pub full_by : {r : Bool} → most_names ≤ n → r ≡ is_there e (entries_in n (drop 1 (names_in words))) → not r ≡ passes_names (filter_of words) e
      unfolding passes_names
      full_by {r} h q =
          let l : most_names ≤ length (filter_of words).named = omega (arith, number) in
          rw (there q, le-leb most_names (length (filter_of words).named) l) (sym (and-true (not r)))

      -- ---- the entry
      pub name_there : {r : Bool} → r ≡ is_there e (entries_in n (drop 1 (names_in words))) → r ≡ true → Naming words words e true
      unfolding named may_name passes_names
      name_there q t = rw (there q, t, not_cleared (omega arith)) (record { done = refl; state = refl; long = refl; refused = λ _. refl })

      module _ {r : Bool} (q : r ≡ is_there e (entries_in n (drop 1 (names_in words)))) (f : r ≡ false) where
        pub name_ninth : n ≡ most_names → Naming words words e false
        unfolding named may_name passes_names
        name_ninth h =
            let l : most_names ≤ length (filter_of words).named = omega (arith, number) in
            stays (more (filter_of words).named) (rw (there q, f, not_cleared (omega arith), le-leb most_names (length (filter_of words).named) l))

        pub name_grown : {ys : List ℕ} → length words ≡ block_size → (n ≡ most_names → ⊥) → length ys ≡ names_length → Appending (names_in words) ys n e
            → Naming words (back names_place names_length words ys) e true
        unfolding named may_name passes_names
        name_grown {ys} long h l A =
            let few : length (filter_of words).named < most_names = omega (arith, number, count) in
            changed
            (rw (there q, f, not_cleared (omega arith), lt-leb most_names (length (filter_of words).named) few))
            (length_back names_place names_length words ys l (omega arith))
            (grown_names ys long l high ∙ rw (A.names, names_are (names_in words) count, there q, f, some_named high))

    pub name_cleared : mode_word ≡ 0 → Naming words words e false
    unfolding named may_name
    name_cleared h = stays (more (filter_of words).named) (rw (is_cleared_lem h))

    pub name_begun : {ys : List ℕ} {m : ℕ} → length words ≡ block_size → m ≡ mode_word → 1 ≤ m → m < 3 → length ys ≡ names_length → Appending (names_in words) ys 0 e
        → Naming words (set (back names_place names_length words ys) mode_place (m + 2)) e true
    unfolding named may_name passes_names is_there entries_in
    name_begun {ys} {m} long q low high l A =
        changed
        (rw (none_named (omega arith), not_cleared (omega arith)))
        (length-set (back names_place names_length words ys) mode_place (m + 2) ∙ length_back names_place names_length words ys l (omega arith))
        (begun_names ys long l m q low high ∙ rw (A.names, none_named (omega arith)))
