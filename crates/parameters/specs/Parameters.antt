-- docs/RULES.md, "Parameters": what each parameter is worth, of a pair and in general: 1 buffer size, 2 list size, 3 entries, 9 messages lost to a full buffer.
-- Ports are counted from 0 here.
-- Assumes nothing.
use Rattle.std.specs.Prelude.{ℕ, ◌*◌, cond, length, get_or, eqb}
use Rattle.filter.specs.Filter.{clear}
use Rattle.pgn_list.specs.PgnList.{list_size}
use Rattle.queue.specs.Queue.{size}
use Rattle.unit.specs.Count.{pair_count}
use Rattle.unit.specs.Ports.{total}
use Rattle.unit.specs.Model.{Rest, Seen, pair_at, general_at}

-- "Sizes count 13 bytes for a queue place and 3 for a list place: 416 and 96 for a pair (the queue is the To port's)": a pair has one queue and one list
abbrev pub queue_bytes : ℕ
queue_bytes = 13 * size

abbrev pub list_bytes : ℕ
list_bytes = 3 * list_size

-- "Entries are those of the plain lists"
abbrev pub entries_at : Rest → ℕ → ℕ
entries_at rest i = length (get_or rest.pairs i clear).entries

-- of four, by its number
abbrev pub chosen : ℕ → ℕ → ℕ → ℕ → ℕ → ℕ
chosen parameter buffer list entries lost =
    cond (eqb parameter 1) buffer (cond (eqb parameter 2) list (cond (eqb parameter 3) entries lost))

-- of the pair p to q
unfoldable pub pair_parameter : ℕ → Rest → Seen → ℕ → ℕ → ℕ → ℕ
pair_parameter ports rest seen p q parameter =
    chosen parameter queue_bytes list_bytes (entries_at rest (pair_at ports p q)) (get_or seen.losses (pair_at ports p q) 0)

-- in general: of all the queues, a list for each pair, the entries of all of them, and the counter that is no pair's
unfoldable pub general_parameter : ℕ → Rest → Seen → ℕ → ℕ
general_parameter ports rest seen parameter =
    chosen parameter (queue_bytes * ports) (list_bytes * pair_count ports) (total (entries_at rest) (pair_count ports)) (get_or seen.losses (general_at ports) 0)
