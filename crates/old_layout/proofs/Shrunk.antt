-- A record of the real layout with each pair's block cut to the words that the old layout has: it means what the record
-- means, without what is searched.
-- Assumes nothing.
use mathlib.Core.Path.{◌≡◌, refl, sym, ap, ◌∙◌}
use mathlib.Core.List.{List, [], ◌∷◌, ◌++◌, map}
use Prim.Native.Nat.{ℕ, zero, suc, ◌+◌, ◌*◌, ◌≤◌}
use native.Mathlib.Nat.{mul-suc, zero-add}
use native.Mathlib.Omega.{arith}
use lib.ListN.{length, take, drop, get_or, length-append, length-drop}
use lib.Seq.{take_at, drop_at, drop-drop, get_or-take, length-take-le}
use Rattle.storage.specs.Blocks.{blocks_of}
use Rattle.storage.proofs.Blocks.{blocks_within}
use Rattle.name_entries.specs.NameEntries.{NameEntry, names_length}
use Rattle.pgn_list.specs.PgnList.{list_size}
use Rattle.filter.specs.Filter.{meant, filter_of, list_place, names_place}
use Rattle.filter.specs.Filter.{block_size as filter_length}
use Rattle.queue.specs.Queue.{queue_of, block_length as queue_length}
use Rattle.losses.specs.Losses.{counter_length, losses_of}
use Rattle.addresses.specs.Table.{table_length, table_of}
use Rattle.unit.specs.Count.{ports_of, pair_count}
use Rattle.unit.specs.Model.{unit_of, own_length, table_from, rows_from, pairs_from, losses_from, record_length, model_of}
use Rattle.unit.proofs.Count.{ports_taken}
use Rattle.old_layout.specs.OldLayout.{old_block, old_filter_of, old_losses_from, old_length, old_model_of}
use Rattle.old_layout.proofs.Commands.{forget, forgotten}

-- ---- a part that lies in the front
within : (a size k : ℕ) (xs : List ℕ) → a + size ≤ k → take size (drop a (take k xs)) ≡ take size (drop a xs)
unfolding blocks_of
within a size k xs h =
    sym (ap (λ (l : List (List ℕ)). get_or l 0 []) (blocks_within (λ w. w) size 0 k a 1 xs (omega arith)))
    ∙ ap (λ n. take size (drop n xs)) (zero-add a)

module _ (a : ℕ) (xs zs : List ℕ) (fits : a ≤ length xs) where
  front_taken : take a (take a xs ++ zs) ≡ take a xs
  front_taken = take_at (take a xs) zs a (length-take-le a xs fits)

  behind : drop a (take a xs ++ zs) ≡ zs
  behind = drop_at (take a xs) zs a (length-take-le a xs fits)

  front : (b j : ℕ) → b + j ≤ a → take j (drop b (take a xs ++ zs)) ≡ take j (drop b xs)
  front b j h = sym (within b j a (take a xs ++ zs) h) ∙ ap (λ l. take j (drop b l)) front_taken ∙ within b j a xs h

  blocks_front : {M : Type 0} (meaning : List ℕ → M) (size start count : ℕ) → start + size * count ≤ a
      → blocks_of start size count meaning (take a xs ++ zs) ≡ blocks_of start size count meaning xs
  unfolding blocks_of
  blocks_front meaning size start zero h = refl
  blocks_front meaning size start (suc n) h =
      rw (
        front start size (omega (arith, mul-suc size n)),
        blocks_front meaning size (start + size) n (omega (arith, mul-suc size n)),
      )

-- ---- blocks from a place on
blocks_from : {M : Type 0} (meaning : List ℕ → M) (size s b count : ℕ) (xs : List ℕ)
    → blocks_of (s + b) size count meaning xs ≡ blocks_of b size count meaning (drop s xs)
unfolding blocks_of
blocks_from meaning size s b zero xs = refl
blocks_from meaning size s b (suc n) xs =
    let e : s + b + size ≡ s + (b + size) = omega arith in
    rw (drop-drop b s xs, e, blocks_from meaning size s (b + size) n xs)

blocks_there : {M : Type 0} (meaning : List ℕ → M) (size s count : ℕ) (xs : List ℕ)
    → blocks_of s size count meaning xs ≡ blocks_of 0 size count meaning (drop s xs)
blocks_there meaning size s count xs =
    let e : s ≡ s + 0 = omega arith in
    ap (λ n. blocks_of n size count meaning xs) e ∙ blocks_from meaning size s 0 count xs

-- ---- n blocks of `large` words cut to `small`
cut : ℕ → ℕ → ℕ → List ℕ → List ℕ
cut small large zero xs = xs
cut small large (suc n) xs = take small xs ++ cut small large n (drop large xs)

module _ (small large : ℕ) (less : small ≤ large) where
  length_cut : (n : ℕ) (xs : List ℕ) → large * n ≤ length xs
      → length (cut small large n xs) + large * n ≡ length xs + small * n
  unfolding cut
  length_cut zero xs h = omega arith
  length_cut (suc n) xs h =
      let m = mul-suc large n in
      let l : length (take small xs) ≡ small = length-take-le small xs (omega arith) in
      omega (
        arith,
        length-append (take small xs) (cut small large n (drop large xs)),
        length_cut n (drop large xs) (omega (arith, length-drop large xs)),
        length-drop large xs,
        mul-suc small n,
      )

  behind_cut : (n : ℕ) (xs : List ℕ) → large * n ≤ length xs
      → drop (small * n) (cut small large n xs) ≡ drop (large * n) xs
  unfolding cut
  behind_cut zero xs h =
      let s : small * 0 ≡ 0 = omega arith in
      let e : large * 0 ≡ 0 = omega arith in
      rw (s, e)
  behind_cut (suc n) xs h =
      let m = mul-suc large n in
      let e : large * suc n ≡ large + large * n = omega (arith, mul-suc large n) in
      let s : small * suc n ≡ small + small * n = omega (arith, mul-suc small n) in
      let rest = cut small large n (drop large xs) in
      rw (s, e)
      (sym (drop-drop (small * n) small (take small xs ++ rest))
      ∙ ap (λ l. drop (small * n) l) (behind small xs rest (omega arith))
      ∙ behind_cut n (drop large xs) (omega (arith, length-drop large xs))
      ∙ drop-drop (large * n) large xs)

  -- blocks that mean the same before and after
  blocks_cut : {M N : Type 0} (before : List ℕ → M) (after : List ℕ → N) (change : M → N)
      → ((xs : List ℕ) → after (take small xs) ≡ change (before (take large xs)))
      → (n : ℕ) (xs : List ℕ) → large * n ≤ length xs → blocks_of 0 small n after (cut small large n xs)
      ≡ map change (blocks_of 0 large n before xs)
  unfolding blocks_of cut
  blocks_cut before after change same zero xs h = refl
  blocks_cut before after change same (suc n) xs h =
      let m = mul-suc large n in
      let rest = cut small large n (drop large xs) in
      λ i.
      (ap after (front_taken small xs rest (omega arith)) ∙ same xs) i
      ∷ (blocks_there after small (0 + small) n (take small xs ++ rest)
      ∙ ap (λ a. blocks_of 0 small n after (drop a (take small xs ++ rest))) (zero-add small)
      ∙ ap (λ l. blocks_of 0 small n after l) (behind small xs rest (omega arith))
      ∙ blocks_cut before after change same n (drop large xs) (omega (arith, length-drop large xs))
      ∙ ap (map change)
      (sym (blocks_there before large (0 + large) n xs ∙ ap (λ a. blocks_of 0 large n before (drop a xs)) (zero-add large)))) i

-- ---- a pair's block
forget_meant : (m : ℕ) (es : List ℕ) (ns : List NameEntry) (ss : List ℕ) → meant m es ns [] ≡ forget (meant m es ns ss)
unfolding meant
forget_meant zero es ns ss = refl
forget_meant (suc zero) es ns ss = refl
forget_meant (suc (suc zero)) es ns ss = refl
forget_meant (suc (suc (suc zero))) es ns ss = refl
forget_meant (suc (suc (suc (suc m)))) es ns ss = refl

block_cut : (xs : List ℕ) → old_filter_of (take old_block xs) ≡ forget (filter_of (take filter_length xs))
unfolding old_filter_of filter_of
block_cut xs =
    rw (
      get_or-take old_block xs 0 0 (omega arith),
      get_or-take old_block xs 1 0 (omega arith),
      within list_place list_size old_block xs (omega arith),
      within names_place names_length old_block xs (omega arith),
      get_or-take filter_length xs 0 0 (omega arith),
      get_or-take filter_length xs 1 0 (omega arith),
      within list_place list_size filter_length xs (omega arith),
      within names_place names_length filter_length xs (omega arith),
    )
    (forget_meant (get_or xs 0 0) _ _ _)

-- ---- the record
pub shrink : ℕ → List ℕ → List ℕ
shrink ports words = take (pairs_from ports) words ++ cut old_block filter_length (pair_count ports) (drop (pairs_from ports) words)

module _ (ports : ℕ) (words : List ℕ) (long : length words ≡ record_length ports) where
  fits : pairs_from ports ≤ length words
  fits = omega arith

  pairs_in_lem : filter_length * pair_count ports ≤ length (drop (pairs_from ports) words)
  pairs_in_lem = omega (arith, length-drop (pairs_from ports) words)

  pub length_shrunk : length (shrink ports words) ≡ old_length ports
  unfolding shrink
  length_shrunk =
      let tail = drop (pairs_from ports) words in
      omega (
        arith,
        length-append (take (pairs_from ports) words) (cut old_block filter_length (pair_count ports) tail),
        length-take-le (pairs_from ports) words fits,
        length_cut old_block filter_length (omega arith) (pair_count ports) tail pairs_in_lem,
        length-drop (pairs_from ports) words,
      )

  own_same : take own_length (shrink ports words) ≡ take own_length words
  unfolding shrink
  own_same = front (pairs_from ports) words _ fits 0 own_length (omega arith)

  pub ports_shrunk : ports_of (shrink ports words) ≡ ports_of words
  ports_shrunk = sym (ports_taken (shrink ports words)) ∙ ap ports_of own_same ∙ ports_taken words

  table_same : take table_length (drop table_from (shrink ports words)) ≡ take table_length (drop table_from words)
  unfolding shrink
  table_same = front (pairs_from ports) words _ fits table_from table_length (omega arith)

  queues_same : blocks_of rows_from queue_length ports queue_of (shrink ports words)
      ≡ blocks_of rows_from queue_length ports queue_of words
  unfolding shrink
  queues_same = blocks_front (pairs_from ports) words _ fits queue_of queue_length rows_from ports (omega arith)

  tail_there : drop (pairs_from ports) (shrink ports words)
      ≡ cut old_block filter_length (pair_count ports) (drop (pairs_from ports) words)
  unfolding shrink
  tail_there = behind (pairs_from ports) words _ fits

  pairs_same : blocks_of (pairs_from ports) old_block (pair_count ports) old_filter_of (shrink ports words)
      ≡ map forget (blocks_of (pairs_from ports) filter_length (pair_count ports) filter_of words)
  pairs_same =
      blocks_there old_filter_of old_block (pairs_from ports) (pair_count ports) (shrink ports words)
      ∙ ap (blocks_of 0 old_block (pair_count ports) old_filter_of) tail_there
      ∙ blocks_cut old_block filter_length (omega arith) filter_of old_filter_of forget block_cut (pair_count ports)
      (drop (pairs_from ports) words) pairs_in_lem
      ∙ ap (map forget) (sym (blocks_there filter_of filter_length (pairs_from ports) (pair_count ports) words))

  losses_same : blocks_of (old_losses_from ports) counter_length (pair_count ports + 1) losses_of (shrink ports words)
      ≡ blocks_of (losses_from ports) counter_length (pair_count ports + 1) losses_of words
  losses_same =
      let n = pair_count ports in
      blocks_there losses_of counter_length (old_losses_from ports) (n + 1) (shrink ports words)
      ∙ ap (blocks_of 0 counter_length (n + 1) losses_of)
      (sym (drop-drop (old_block * n) (pairs_from ports) (shrink ports words))
      ∙ ap (drop (old_block * n)) tail_there
      ∙ behind_cut old_block filter_length (omega arith) n (drop (pairs_from ports) words) pairs_in_lem
      ∙ drop-drop (filter_length * n) (pairs_from ports) words)
      ∙ sym (blocks_there losses_of counter_length (losses_from ports) (n + 1) words)

  pub model_shrunk : old_model_of ports (shrink ports words) ≡ forgotten (model_of ports words)
  unfolding old_model_of model_of
  model_shrunk = λ i. record {
    rest = record { own = ap unit_of own_same i; pairs = pairs_same i; table = ap table_of table_same i };
    queues = queues_same i;
    seen = record { losses = losses_same i };
  }
