-- The contracts of the accessors: what a lent block, changed or read, is in the model of the record.
-- Assumes nothing.
use Rattle.std.specs.Prelude.{ℕ, ◌+◌, ◌*◌, ◌≤◌, ◌<◌, Bool, false, ◌⊎◌, ◌≡◌, List, take, drop, get_or, set, Option}
use Rattle.addresses.specs.Table.{Place}
use Rattle.delivery.specs.Row.{room, pull, given}
use Rattle.filter.specs.declared.Asked.{Asked}
use Rattle.filter.specs.Filter.{Filter, clear, asked, block_size as filter_length}
use Rattle.sorted_list.specs.SortedList.{most_probes}
use Rattle.name_entries.specs.NameEntries.{most_names}
use Rattle.queue.specs.declared.Frame.{Frame}
use Rattle.queue.specs.Queue.{size, priority, joined, taking, block_length as queue_length}
use Rattle.address_claims.specs.declared.Event.{Event}
use Rattle.unit.specs.Model.{queue_on, row_at, pair_at, with_rest, with_pairs, with_table, with_queue, with_losses, pairs_from, rows_from, losses_from, model_of}

-- the address table was changed, and what came of a claim there
pub record TableChanging (ports : ℕ) (before after : List ℕ) (change : List Place → List Place) : Type 0 where
  pub state : model_of ports after ≡ with_rest (model_of ports before) (with_table (model_of ports before).rest (change (model_of ports before).rest.table))

pub record TableClaiming (ports : ℕ) (before after : List ℕ) (change : List Place → List Place) (came : List Place → Event) (r : Event) : Type 0 where
  pub state : model_of ports after ≡ with_rest (model_of ports before) (with_table (model_of ports before).rest (change (model_of ports before).rest.table))
  pub event : r ≡ came (model_of ports before).rest.table

-- a pair was asked about a PGN and a sender's NAME
pub record PairAsking (ports : ℕ) (words : List ℕ) (p q pgn : ℕ) (sender : Option ℕ) (r : Asked) : Type 0 where
  pub answer : r ≡ asked (get_or (model_of ports words).rest.pairs (pair_at ports p q) clear) pgn sender
  pub small : r.compared ≤ most_probes + most_names

-- a pair was changed in the record, and no word outside its block
pub record PairChanging (ports : ℕ) (before after : List ℕ) (i : ℕ) (change : Filter → Filter) : Type 0 where
  pub state : model_of ports after
      ≡ with_rest (model_of ports before) (with_pairs (model_of ports before).rest (set (model_of ports before).rest.pairs i (change (get_or (model_of ports before).rest.pairs i clear))))
  pub others : (n : ℕ) → (n < pairs_from ports + filter_length * i) ⊎ (pairs_from ports + filter_length * i + filter_length ≤ n) → get_or after n 0 ≡ get_or before n 0

-- or, if it may not be, not a word
pub record PairJudging (ports : ℕ) (before after : List ℕ) (i : ℕ) (may : Filter → Bool) (change : Filter → Filter) (r : Bool) : Type 0 where
  pub done : r ≡ may (get_or (model_of ports before).rest.pairs i clear)
  pub changed : PairChanging ports before after i change
  pub refused : r ≡ false → after ≡ before

-- a counter of losses was changed, and no other word
pub record LossesChanging (ports : ℕ) (before after : List ℕ) (i : ℕ) (change : ℕ → ℕ) : Type 0 where
  pub state : model_of ports after ≡ with_losses (model_of ports before) (set (model_of ports before).seen.losses i (change (get_or (model_of ports before).seen.losses i 0)))
  pub others : (n : ℕ) → (n ≡ losses_from ports + i → ⊥) → get_or after n 0 ≡ get_or before n 0

-- a frame was sent to port q
pub record RowJoining (ports : ℕ) (before after : List ℕ) (q : ℕ) (f : Frame) (r : Bool) : Type 0 where
  pub answer : r ≡ room size (row_at (model_of ports before) q)
  pub state : model_of ports after ≡ with_queue (model_of ports before) q (joined (queue_on (model_of ports before) q) f)

-- a take was made on port q
pub record RowTaking (ports : ℕ) (before after : List ℕ) (q : ℕ) (r : Option Frame) : Type 0 where
  pub answer : r ≡ given (pull priority (row_at (model_of ports before) q))
  pub state : model_of ports after ≡ with_queue (model_of ports before) q (taking (queue_on (model_of ports before) q))
  pub ahead : take (rows_from + queue_length * q) after ≡ take (rows_from + queue_length * q) before
  pub behind : drop (rows_from + queue_length * q + queue_length) after ≡ drop (rows_from + queue_length * q + queue_length) before
