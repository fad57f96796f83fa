-- The record's regions: what a part that is read means in the model, and what a part that was lent and came back does to it. Assumes nothing.
use mathlib.Core.Path.{◌≡◌, refl, sym, ap, ◌∙◌}
use mathlib.Core.Logic.{◌⊎◌, inl, inr, ⊎_elim}
use mathlib.Core.Bool.{Bool}
use Rattle.std.specs.Prelude.{Option, None}
use mathlib.Core.List.{List, [], ◌∷◌}
use Prim.Native.Nat.{ℕ, ◌+◌, ◌*◌, ◌≤◌, ◌<◌}
use native.Mathlib.Omega.{arith}
use lib.ListN.{length, get_or, set, take, drop, take-append-drop, get_or-eq_default}
use lib.Seq.{get_or-take, get_or-drop, get_or-set_other}
use Rattle.storage.specs.Blocks.{block_at}
use Rattle.storage.proofs.Parts.{back, part_in, part_before, part_after, part_apart, store_back}
use Rattle.storage.proofs.Blocks.{length_blocks, blocks_at, blocks_set, blocks_apart}
use Rattle.filter.specs.declared.Asked.{Asked}
use Rattle.filter.specs.Filter.{Filter, filter_of, clear, Asking}
use Rattle.queue.specs.declared.Frame.{Frame}
use Rattle.queue.specs.Queue.{row_of, Queued, queue_of, idle, Joining, Taking}
use Rattle.losses.specs.Losses.{counter_length, held, losses_of}
use Rattle.address_claims.specs.declared.Event.{Event}
use Rattle.addresses.specs.Table.{table_of, name_in, name_at, Place}
use Rattle.addresses.proofs.Words.{table_length_lem}
use Rattle.unit.specs.Count.{pair_count}
use Rattle.unit.specs.Model.{model_of, table_from, rows_from, pairs_from, losses_from, record_length, pair_at, queue_on, row_at, with_queue, with_rest, with_pairs, with_table, with_losses}
use Rattle.filter_commands.specs.Changes.{Changing}
use Rattle.record.specs.Steps.{PairChanging, PairJudging, PairAsking, RowJoining, RowTaking, LossesChanging, TableChanging, TableClaiming}
use Rattle.filter.specs.Filter.{block_size as filter_length}
use Rattle.addresses.specs.Table.{table_length}
use Rattle.queue.specs.Queue.{block_length as queue_length}

-- there is a queue for each port
pub queues_long : (ports : ℕ) (words : List ℕ) → length (model_of ports words).queues ≡ ports
unfolding model_of
queues_long ports words = length_blocks queue_of queue_length rows_from ports words

-- a word outside a part that was lent is as it was
word_apart : (a k : ℕ) (words ys : List ℕ) → length ys ≡ k → a + k ≤ length words → (n : ℕ) → (n < a) ⊎ (a + k ≤ n) → get_or (back a k words ys) n 0 ≡ get_or words n 0
word_apart a k words ys long fits n h =
    sym (one (back a k words ys))
    ∙ ap (λ l. get_or l 0 0) (part_apart a k words ys long fits n 1 (⊎_elim (λ l. inl (omega arith)) (λ l. inr l) h))
    ∙ one words
  where
    one : (xs : List ℕ) → get_or (take 1 (drop n xs)) 0 0 ≡ get_or xs n 0
    one xs = get_or-take 1 (drop n xs) 0 0 (omega arith) ∙ get_or-drop n xs 0 0 ∙ ap (λ i. get_or xs i 0) (omega arith)

-- ---- the queue of port q
module _ (words : List ℕ) (q : ℕ) (inside : rows_from + queue_length * q + queue_length ≤ length words) (ports : ℕ) (port : q < ports) where
  pub queue_of_lem : queue_on (model_of ports words) q ≡ queue_of (take queue_length (drop (rows_from + queue_length * q) words))
  unfolding model_of block_at
  queue_of_lem = blocks_at queue_of queue_length rows_from ports words q idle port

  row_of_lem : row_at (model_of ports words) q ≡ row_of (take queue_length (drop (rows_from + queue_length * q) words))
  unfolding queue_of
  row_of_lem = ap (λ (x : Queued). x.row) queue_of_lem

  module _ (ys : List ℕ) (long : length ys ≡ queue_length) where
    queue_back : model_of ports (back (rows_from + queue_length * q) queue_length words ys) ≡ with_queue (model_of ports words) q (queue_of ys)
    unfolding model_of
    queue_back =
        rw (
          part_before (rows_from + queue_length * q) queue_length words ys long (omega arith) 0 5 (omega arith),
          blocks_apart (rows_from + queue_length * q) queue_length words ys long (omega arith) filter_of filter_length (pairs_from ports) (pair_count ports) (inr (omega arith)),
          blocks_apart (rows_from + queue_length * q) queue_length words ys long (omega arith) losses_of counter_length (losses_from ports) (pair_count ports + 1) (inr (omega arith)),
          blocks_set rows_from queue_length words ys q long (omega arith) queue_of ports port,
          part_apart (rows_from + queue_length * q) queue_length words ys long (omega arith) table_from table_length (inl (omega arith)),
        )

    pub row_joined : (f : Frame) (r : Bool) → Joining (take queue_length (drop (rows_from + queue_length * q) words)) ys f r → RowJoining ports words (back (rows_from + queue_length * q) queue_length words ys) q f r
    row_joined f r J = record { answer = rw row_of_lem J.answer; state = rw (queue_back, queue_of_lem, J.state) }

    pub row_taken : (r : Option Frame) → Taking (take queue_length (drop (rows_from + queue_length * q) words)) ys r → RowTaking ports words (back (rows_from + queue_length * q) queue_length words ys) q r
    row_taken r T = record {
      answer = rw row_of_lem T.answer;
      state = rw (queue_back, queue_of_lem, T.state);
      ahead = part_before (rows_from + queue_length * q) queue_length words ys long (omega arith) 0 (rows_from + queue_length * q) (omega arith);
      behind = part_after (rows_from + queue_length * q) queue_length words ys long (omega arith) (rows_from + queue_length * q + queue_length) (omega arith);
    }

-- ---- the filter of a pair
pair_lent : (ports : ℕ) (words ys : List ℕ) (i : ℕ) → length words ≡ record_length ports → i < pair_count ports → length ys ≡ filter_length
    → model_of ports (back (pairs_from ports + filter_length * i) filter_length words ys) ≡ with_rest (model_of ports words) (with_pairs (model_of ports words).rest (set (model_of ports words).rest.pairs i (filter_of ys)))
unfolding model_of
pair_lent ports words ys i full pair long =
    rw (
      part_before (pairs_from ports + filter_length * i) filter_length words ys long (omega arith) 0 5 (omega arith),
      blocks_set (pairs_from ports) filter_length words ys i long (omega arith) filter_of (pair_count ports) pair,
      blocks_apart (pairs_from ports + filter_length * i) filter_length words ys long (omega arith) queue_of queue_length rows_from ports (inl (omega arith)),
      blocks_apart (pairs_from ports + filter_length * i) filter_length words ys long (omega arith) losses_of counter_length (losses_from ports) (pair_count ports + 1) (inr (omega arith)),
      part_apart (pairs_from ports + filter_length * i) filter_length words ys long (omega arith) table_from table_length (inl (omega arith)),
    )

counter_lent : (ports : ℕ) (words ys : List ℕ) (i : ℕ) → length words ≡ record_length ports → i ≤ pair_count ports → length ys ≡ counter_length
    → model_of ports (back (losses_from ports + counter_length * i) counter_length words ys) ≡ with_losses (model_of ports words) (set (model_of ports words).seen.losses i (losses_of ys))
unfolding model_of
counter_lent ports words ys i full counter long =
    rw (
      part_before (losses_from ports + counter_length * i) counter_length words ys long (omega arith) 0 5 (omega arith),
      blocks_apart (losses_from ports + counter_length * i) counter_length words ys long (omega arith) filter_of filter_length (pairs_from ports) (pair_count ports) (inl (omega arith)),
      blocks_apart (losses_from ports + counter_length * i) counter_length words ys long (omega arith) queue_of queue_length rows_from ports (inl (omega arith)),
      blocks_set (losses_from ports) counter_length words ys i long (omega arith) losses_of (pair_count ports + 1) (omega arith),
      part_apart (losses_from ports + counter_length * i) counter_length words ys long (omega arith) table_from table_length (inl (omega arith)),
    )

-- the first word of a part
pub first_word : (words : List ℕ) (a k : ℕ) → 0 < k → get_or (take k (drop a words)) 0 0 ≡ get_or words a 0
first_word words a k h =
    let here : a + 0 ≡ a = omega arith in
    get_or-take k (drop a words) 0 0 h ∙ get_or-drop a words 0 0 ∙ ap (λ n. get_or words n 0) here

-- an address past the table has no NAME
pub name_past : (ports : ℕ) (words : List ℕ) (address : ℕ) → 254 ≤ address → None ≡ name_at (model_of ports words).rest.table address
unfolding name_at name_in model_of
name_past ports words address h =
    let past = get_or-eq_default (table_of (take table_length (drop table_from words))) None {n = address} (omega (arith, table_length_lem (take table_length (drop table_from words)))) in
    rw past

pub pair_asked : (ports : ℕ) (words : List ℕ) (p q pgn i : ℕ) (sender : Option ℕ) (r : Asked) → i ≡ pair_at ports p q → i < pair_count ports → Asking (take filter_length (drop (pairs_from ports + filter_length * i) words)) pgn sender r
    → PairAsking ports words p q pgn sender r
unfolding model_of block_at
pair_asked ports words p q pgn i sender r e h A = record {
  answer = rw (← e, blocks_at filter_of filter_length (pairs_from ports) (pair_count ports) words i clear h) A.answer;
  small = A.small;
}

module _ (ports : ℕ) (words : List ℕ) (i : ℕ) (full : length words ≡ record_length ports) (pair : i < pair_count ports) where
  pub pair_of : get_or (model_of ports words).rest.pairs i clear ≡ filter_of (take filter_length (drop (pairs_from ports + filter_length * i) words))
  unfolding model_of block_at
  pair_of = blocks_at filter_of filter_length (pairs_from ports) (pair_count ports) words i clear pair

  pub pair_changed : (ys : List ℕ) (change : Filter → Filter) → length ys ≡ filter_length → filter_of ys ≡ change (filter_of (take filter_length (drop (pairs_from ports + filter_length * i) words)))
      → PairChanging ports words (back (pairs_from ports + filter_length * i) filter_length words ys) i change
  pair_changed ys change long e = record {
    state = pair_back ∙ rw (e, pair_of);
    others = word_apart (pairs_from ports + filter_length * i) filter_length words ys long (omega arith);
  }
    where
      pair_back : model_of ports (back (pairs_from ports + filter_length * i) filter_length words ys) ≡ with_rest (model_of ports words) (with_pairs (model_of ports words).rest (set (model_of ports words).rest.pairs i (filter_of ys)))
      pair_back = pair_lent ports words ys i full pair long

  pub pair_judged : (ys : List ℕ) (may : Filter → Bool) (change : Filter → Filter) {r : Bool} → length ys ≡ filter_length
      → Changing (take filter_length (drop (pairs_from ports + filter_length * i) words)) ys (may (filter_of (take filter_length (drop (pairs_from ports + filter_length * i) words)))) (change (filter_of (take filter_length (drop (pairs_from ports + filter_length * i) words)))) r
      → PairJudging ports words (back (pairs_from ports + filter_length * i) filter_length words ys) i may change r
  pair_judged ys may change long C = record {
    done = rw pair_of C.done;
    changed = pair_changed ys change long C.state;
    refused = λ e. rw (C.refused (sym C.done ∙ e)) whole_again;
  }
    where
      whole_again : back (pairs_from ports + filter_length * i) filter_length words (take filter_length (drop (pairs_from ports + filter_length * i) words)) ≡ words
      whole_again = rw (take-append-drop filter_length (drop (pairs_from ports + filter_length * i) words)) (take-append-drop (pairs_from ports + filter_length * i) words)

-- ---- a counter of losses, in one word
module _ (ports : ℕ) (words : List ℕ) (i : ℕ) (full : length words ≡ record_length ports) (counter : i ≤ pair_count ports) (a : ℕ) (here : a ≡ losses_from ports + counter_length * i) where
  pub losses_of_lem : get_or (model_of ports words).seen.losses i 0 ≡ held (get_or words a 0)
  unfolding model_of block_at losses_of
  losses_of_lem =
      rw here (
      blocks_at losses_of counter_length (losses_from ports) (pair_count ports + 1) words i 0 (omega arith)
      ∙ ap held (first_word words (losses_from ports + counter_length * i) counter_length (omega arith))
      )

  counter_back : (word : ℕ) → model_of ports (set words a word) ≡ with_losses (model_of ports words) (set (model_of ports words).seen.losses i (held word))
  unfolding losses_of
  counter_back word = rw (here, store_back (losses_from ports + counter_length * i) words word (omega arith)) (counter_lent ports words (word ∷ []) i full counter refl)

  pub losses_changed : (word : ℕ) (change : ℕ → ℕ) → held word ≡ change (held (get_or words a 0)) → LossesChanging ports words (set words a word) i change
  losses_changed word change e = record {
    state = counter_back word ∙ rw (e, losses_of_lem);
    others = λ n ne. get_or-set_other words a n word 0 (λ e. ne (omega arith));
  }

-- ---- the address table
module _ (words ys : List ℕ) (inside : rows_from ≤ length words) (long : length ys ≡ table_length) (ports : ℕ) where
  pub table_back : model_of ports (back table_from table_length words ys) ≡ with_rest (model_of ports words) (with_table (model_of ports words).rest (table_of ys))
  unfolding model_of
  table_back =
      rw (
        part_before table_from table_length words ys long (omega arith) 0 5 (omega arith),
        blocks_apart table_from table_length words ys long (omega arith) filter_of filter_length (pairs_from ports) (pair_count ports) (inr (omega arith)),
        blocks_apart table_from table_length words ys long (omega arith) queue_of queue_length rows_from ports (inr (omega arith)),
        blocks_apart table_from table_length words ys long (omega arith) losses_of counter_length (losses_from ports) (pair_count ports + 1) (inr (omega arith)),
        part_in table_from table_length words ys long (omega arith),
      )

  module _ (change : List Place → List Place) (e : table_of ys ≡ change (table_of (take table_length (drop table_from words)))) where
    changed : model_of ports (back table_from table_length words ys) ≡ with_rest (model_of ports words) (with_table (model_of ports words).rest (change (model_of ports words).rest.table))
    unfolding model_of
    changed = table_back ∙ rw e

    pub table_changed : TableChanging ports words (back table_from table_length words ys) change
    table_changed = record { state = changed }

    pub table_claimed : (came : List Place → Event) (r : Event) → r ≡ came (table_of (take table_length (drop table_from words))) → TableClaiming ports words (back table_from table_length words ys) change came r
    unfolding model_of
    table_claimed came r h = record { state = changed; event = h }
